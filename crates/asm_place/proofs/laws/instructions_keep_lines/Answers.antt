-- What is put as an instruction leaves the line table.
use Rattle.asm_place.proofs.KeptLines.{lines_kept}
use Rattle.asm_place.proofs.laws.instructions_keep_lines.Goals as goal

pub returns : goal.returns
returns c = lines_kept
