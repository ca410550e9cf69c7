-- The law holds.
use Rattle.object_laws.proofs.SmallObjects as law
use Rattle.object_laws.proofs.symbols.objects_fit.Goals as goal

pub returns : goal.returns
returns c = law.objects_fit
