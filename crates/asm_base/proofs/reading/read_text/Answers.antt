-- A front of the events of a whole file: it was not started, or it was and then a front of the rest happened.
use Rattle.asm_base.proofs.WholeFileLemmas.{first_and_front, nothing_happened}
use Rattle.asm_base.proofs.reading.read_text.Goals as goal

pub returns-clause-front : goal.returns-clause-front
returns-clause-front g c = first_and_front _ _ _ _ _ c.in_ok-start.ensures.history c.read_rest.ensures.front
