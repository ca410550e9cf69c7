-- An alignment is 2^30 at most.
use Rattle.std.proofs.Common.{refl}
use Rattle.item_rows.proofs.RowFitting.{align_fits}
use Rattle.item_rows.proofs.rows.SizeInRowFragVisit.align.Goals as goal

pub returns : goal.returns
returns c = (rw (c.log.ensures.log, c.most.ensures) refl, align_fits c.args.self.now.rows.count c.args.self.now.number c.log.result c.most.result c.log.ensures.within)
