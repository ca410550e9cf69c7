-- The law holds.
use Rattle.object_laws.proofs.FieldLaws.{answer}
use Rattle.object_laws.proofs.relocation_meanings.suffixes_are_answered.Goals as goal

pub returns : goal.returns
returns c = answer
