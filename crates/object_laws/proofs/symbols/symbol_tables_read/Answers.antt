-- The law holds.
use Rattle.object_laws.proofs.SymbolReads as law
use Rattle.object_laws.proofs.symbols.symbol_tables_read.Goals as goal

pub returns : goal.returns
returns c = law.symbol_tables_read
