-- No bytes fit.
use Rattle.std.proofs.Common.{refl, arith}
use Rattle.item_rows.proofs.RowFitting.{fixed_fits}
use Rattle.item_rows.proofs.rows.SizeInRowFragVisit.run.Goals as goal

pub returns : goal.returns
returns c = (refl, fixed_fits c.args.self.now.rows.count c.args.self.now.number 0 (omega arith))
