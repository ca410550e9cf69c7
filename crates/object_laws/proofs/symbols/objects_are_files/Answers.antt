-- The law holds.
use Rattle.object_laws.proofs.ObjectFit as law
use Rattle.object_laws.proofs.symbols.objects_are_files.Goals as goal

pub returns : goal.returns
returns c = law.objects_are_files
