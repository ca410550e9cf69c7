-- The law holds.
use Rattle.object_laws.proofs.SectionReads as law
use Rattle.object_laws.proofs.files.null_headers_read.Goals as goal

pub returns : goal.returns
returns c = law.null_headers_read
