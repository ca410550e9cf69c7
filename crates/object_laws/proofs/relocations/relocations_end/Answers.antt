-- The law holds.
use Rattle.object_laws.proofs.RelocationReads as law
use Rattle.object_laws.proofs.relocations.relocations_end.Goals as goal

pub returns : goal.returns
returns c = law.relocations_end
