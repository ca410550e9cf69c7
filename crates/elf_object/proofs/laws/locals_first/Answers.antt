-- The law holds.
use Rattle.elf_object.proofs.TableOrder as law
use Rattle.elf_object.proofs.laws.locals_first.Goals as goal

pub returns : goal.returns
returns c = law.locals_first
