-- The law holds.
use Rattle.elf_file.proofs.FilePlaces as law
use Rattle.elf_file.proofs.laws.bodies_stand.Goals as goal

pub returns-clause-bodies : goal.returns-clause-bodies
returns-clause-bodies c = law.file_stands

pub returns-clause-pieces : goal.returns-clause-pieces
returns-clause-pieces c = law.stands_in
