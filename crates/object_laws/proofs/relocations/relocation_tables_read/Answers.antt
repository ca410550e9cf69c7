-- The law holds.
use Rattle.object_laws.proofs.RelocationReads as law
use Rattle.object_laws.proofs.relocations.relocation_tables_read.Goals as goal

pub returns : goal.returns
returns c = law.relocation_tables_read
