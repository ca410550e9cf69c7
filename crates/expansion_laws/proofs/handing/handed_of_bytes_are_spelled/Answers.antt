-- From the lines of the source on.
use Rattle.expansion_laws.proofs.Handed.{hand_bytes}
use Rattle.expansion_laws.proofs.handing.handed_of_bytes_are_spelled.Goals as goal

pub returns : goal.returns
returns g c known files contents placer = hand_bytes g.P.Placer.placed known contents c.tokens_are_in_bytes.ensures files placer
