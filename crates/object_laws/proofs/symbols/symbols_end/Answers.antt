-- The law holds.
use Rattle.object_laws.proofs.SymbolReads as law
use Rattle.object_laws.proofs.symbols.symbols_end.Goals as goal

pub returns : goal.returns
returns c = law.symbols_end
