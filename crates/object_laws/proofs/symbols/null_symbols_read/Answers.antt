-- The law holds.
use Rattle.object_laws.proofs.SymbolReads as law
use Rattle.object_laws.proofs.symbols.null_symbols_read.Goals as goal

pub returns : goal.returns
returns c = law.null_symbols_read
