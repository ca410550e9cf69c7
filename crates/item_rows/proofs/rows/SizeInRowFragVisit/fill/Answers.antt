-- Few units of few bytes fit.
use Rattle.std.proofs.Common.{◌*◌, refl}
use Rattle.item_rows.proofs.RowFitting.{fixed_fits, few_units}
use Rattle.item_rows.proofs.rows.SizeInRowFragVisit.fill.Goals as goal

pub returns : goal.returns
returns c = (
  rw (c.count.ensures.count, c.size.ensures.size) refl,
  fixed_fits c.args.self.now.rows.count c.args.self.now.number (c.count.result * c.size.result) (few_units c.count.result c.size.result c.count.ensures.within c.size.ensures.within),
)
