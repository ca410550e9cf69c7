-- What is worth a number is that number.
use Rattle.asm_operands.proofs.CutLemmas.{constant_front}
use Rattle.asm_operands.proofs.constants.front_constant.Goals as goal

pub returns : goal.returns
returns c = constant_front _ c.in_ok-front.front.value c.in_ok-front.front.length c.in_ok-front.ensures
