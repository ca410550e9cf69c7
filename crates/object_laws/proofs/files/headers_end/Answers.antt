-- The law holds.
use Rattle.object_laws.proofs.SectionReads as law
use Rattle.object_laws.proofs.files.headers_end.Goals as goal

pub returns : goal.returns
returns c = law.headers_end
