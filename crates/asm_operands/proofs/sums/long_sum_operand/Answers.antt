-- Five tokens are read as the tree of three summands.
use Rattle.asm_operands.proofs.SumLemmas.{three_sum}
use Rattle.asm_operands.proofs.sums.long_sum_operand.Goals as goal

pub returns-in_ok-addend_of-in-len5-2 : goal.returns-in_ok-addend_of-in-len5-2
returns-in_ok-addend_of-in-len5-2 c =
    three_sum c.args.tokens.now _ _ _ _ _ c.in_ok-summand_of-in-len5.field-0 c.in_ok-addend_of-in-len5.field-0 c.in_ok-addend_of-in-len5-2.field-0 c.in-len5.len_at_least c.in-len5.len_below
    c.in_ok-summand_of-in-len5.ensures c.in_ok-addend_of-in-len5.ensures c.in_ok-addend_of-in-len5-2.ensures
