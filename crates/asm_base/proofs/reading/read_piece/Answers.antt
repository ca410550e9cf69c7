-- What was read goes onto the end.
use Rattle.std.proofs.Common.{arith}
use Rattle.std.proofs.lemmas.Grind.{common_steps}
use Rattle.asm_base.proofs.WholeFileLemmas.{reads_on}
use Rattle.asm_base.proofs.reading.read_piece.Goals as goal

pub returns-clause-value : goal.returns-clause-value
returns-clause-value g c = reads_on _ _ _ _ _ c.in_ok-count.ensures.rest.0 (grind (arith, common_steps))
