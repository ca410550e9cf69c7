-- The law holds.
use Rattle.object_laws.proofs.FieldLaws.{suit}
use Rattle.object_laws.proofs.relocation_meanings.relocations_suit_fields.Goals as goal

pub returns : goal.returns
returns c = suit
