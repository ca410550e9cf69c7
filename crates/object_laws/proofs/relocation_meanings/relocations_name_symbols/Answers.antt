-- The law holds.
use Rattle.object_laws.proofs.FieldLaws.{name}
use Rattle.object_laws.proofs.relocation_meanings.relocations_name_symbols.Goals as goal

pub returns : goal.returns
returns c = name
