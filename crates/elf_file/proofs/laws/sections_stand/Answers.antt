-- The law holds.
use Rattle.elf_file.proofs.HeaderPlaces as law
use Rattle.elf_file.proofs.laws.sections_stand.Goals as goal

pub returns : goal.returns
returns c = law.sections_stand
