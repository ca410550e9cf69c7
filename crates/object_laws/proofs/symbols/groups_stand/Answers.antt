-- The law holds.
use Rattle.object_laws.proofs.GroupFlags as law
use Rattle.object_laws.proofs.symbols.groups_stand.Goals as goal

pub returns : goal.returns
returns c = law.groups_stand
