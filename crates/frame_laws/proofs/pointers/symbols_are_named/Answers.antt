-- One symbol stays in the form of a field.
use Rattle.frame_laws.proofs.NamedSymbols.{symbols_are_named}
use Rattle.frame_laws.proofs.pointers.symbols_are_named.Goals as goal

pub returns : goal.returns
returns c = symbols_are_named c.distances_are_held.ensures.symbols
