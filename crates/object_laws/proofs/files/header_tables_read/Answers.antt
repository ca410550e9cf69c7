-- The law holds.
use Rattle.object_laws.proofs.SectionReads as law
use Rattle.object_laws.proofs.files.header_tables_read.Goals as goal

pub returns : goal.returns
returns c = law.header_tables_read
