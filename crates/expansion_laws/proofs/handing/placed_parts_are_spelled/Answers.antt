-- Statement by statement.
use Rattle.expansion_laws.proofs.Handed.{parts_spelled}
use Rattle.expansion_laws.proofs.handing.placed_parts_are_spelled.Goals as goal

pub returns : goal.returns
returns c = parts_spelled
