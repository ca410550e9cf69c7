use Rattle.scfi_pass.proofs.ChangingLemmas.{none_told}
use Rattle.scfi_pass.proofs.tables.put_row.Goals as goal

pub returns-in-None-clause-ops : goal.returns-in-None-clause-ops
returns-in-None-clause-ops c = none_told c.args.place c.args.row.now c.args.ops.now.items
