use Rattle.x86_table.proofs.HeadOrder.{tell_rows}
use Rattle.x86_table.proofs.laws.heads_tell_rows.Goals as goal

pub returns : goal.returns
returns c = tell_rows
