use Rattle.x86_table.proofs.TableFacts.{stand}
use Rattle.x86_table.proofs.laws.opcodes_stand.Goals as goal

pub returns : goal.returns
returns c = stand
