use Rattle.x86_table.proofs.TableFacts.{apart}
use Rattle.x86_table.proofs.laws.rows_are_apart.Goals as goal

pub returns : goal.returns
returns c = apart
