use Rattle.x86_table.proofs.HeadOrder.{narrow}
use Rattle.x86_table.proofs.laws.fields_are_narrow.Goals as goal

pub returns : goal.returns
returns c = narrow
