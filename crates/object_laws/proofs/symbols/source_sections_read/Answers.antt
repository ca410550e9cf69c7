-- The law holds.
use Rattle.object_laws.proofs.SymbolReads as law
use Rattle.object_laws.proofs.symbols.source_sections_read.Goals as goal

pub returns : goal.returns
returns c = law.source_sections_read
