-- The law holds.
use Rattle.object_laws.proofs.NameReads as law
use Rattle.object_laws.proofs.files.sections_read.Goals as goal

pub returns : goal.returns
returns c = law.sections_read
