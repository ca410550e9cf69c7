-- The law holds.
use Rattle.elf_object.proofs.TableNumbers as law
use Rattle.elf_object.proofs.laws.targets_stand.Goals as goal

pub returns : goal.returns
returns c = law.targets_stand
