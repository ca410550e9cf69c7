-- What spells a number is no label.
use Rattle.asm_operands.proofs.LeafLemmas.{any_found}
use Rattle.asm_operands.proofs.numbers.any_number.Goals as goal

pub returns : goal.returns
returns c = any_found c.args.digits.now c.spelled_number.result c.ok.result c.spelled_number.ensures c.ok.ensures.value
