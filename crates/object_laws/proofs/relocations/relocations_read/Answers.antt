-- The law holds.
use Rattle.object_laws.proofs.RelocationReads as law
use Rattle.object_laws.proofs.relocations.relocations_read.Goals as goal

pub returns : goal.returns
returns c = law.relocations_read c.targets_stand.ensures
