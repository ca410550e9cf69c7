use Rattle.x86_table.proofs.Lengths.{within}
use Rattle.x86_table.proofs.laws.instruction_length.Goals as goal

pub returns : goal.returns
returns c = within
