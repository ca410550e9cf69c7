-- The intervals of a source stand in order.
use Rattle.asm_lines.proofs.RunLaws.{never_fall}
use Rattle.asm_lines.proofs.laws.lines_never_fall.Goals as goal

pub returns : goal.returns
returns c = never_fall
