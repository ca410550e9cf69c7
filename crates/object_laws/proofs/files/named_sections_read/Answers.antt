-- The law holds.
use Rattle.object_laws.proofs.NamedReads as law
use Rattle.object_laws.proofs.files.named_sections_read.Goals as goal

pub returns : goal.returns
returns c = law.named_sections_read
