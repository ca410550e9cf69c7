-- The law holds.
use Rattle.object_laws.proofs.LocalReads as law
use Rattle.object_laws.proofs.symbols.locals_read.Goals as goal

pub returns : goal.returns
returns c = law.locals_read c.locals_first.ensures
