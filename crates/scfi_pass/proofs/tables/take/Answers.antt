use Rattle.scfi_pass.proofs.ChangingLemmas.{none_told}
use Rattle.scfi_pass.proofs.tables.take.Goals as goal

pub returns-then-not-is_reached-clause-ops : goal.returns-then-not-is_reached-clause-ops
returns-then-not-is_reached-clause-ops c = none_told c.args.place c.args.row.now c.args.ops.now.items

pub returns-then-stays-clause-ops : goal.returns-then-stays-clause-ops
returns-then-stays-clause-ops c = none_told c.args.place c.args.row.now c.args.ops.now.items
