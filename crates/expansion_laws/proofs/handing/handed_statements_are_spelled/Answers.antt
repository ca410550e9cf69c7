-- Turn by turn.
use Rattle.expansion_laws.proofs.Handed.{hand_spelled}
use Rattle.expansion_laws.proofs.handing.handed_statements_are_spelled.Goals as goal

pub returns : goal.returns
returns g c known files statements contents placer = hand_spelled g.P.Placer.placed known contents c.tokens_are_in_bytes.ensures files statements placer
