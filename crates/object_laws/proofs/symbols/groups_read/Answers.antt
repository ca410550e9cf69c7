-- The law holds.
use Rattle.object_laws.proofs.GroupReads as law
use Rattle.object_laws.proofs.symbols.groups_read.Goals as goal

pub returns : goal.returns
returns c = law.groups_read
