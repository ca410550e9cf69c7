-- As many tokens as a sum has are read as its tree.
use Rattle.asm_operands.proofs.SumLemmas.{one_sum, two_sum}
use Rattle.asm_operands.proofs.sums.sum_operand.Goals as goal

pub returns-in_ok-summand_of-in-len1 : goal.returns-in_ok-summand_of-in-len1
returns-in_ok-summand_of-in-len1 c = one_sum c.args.tokens.now _ c.in_ok-summand_of-in-len1.field-0 c.in-len1.len_at_least c.in-len1.len_below c.in_ok-summand_of-in-len1.ensures

pub returns-in_ok-addend_of-in-len3 : goal.returns-in_ok-addend_of-in-len3
returns-in_ok-addend_of-in-len3 c =
    two_sum c.args.tokens.now _ _ _ c.in_ok-summand_of-in-len3.field-0 c.in_ok-addend_of-in-len3.field-0 c.in-len3.len_at_least c.in-len3.len_below c.in_ok-summand_of-in-len3.ensures c.in_ok-addend_of-in-len3.ensures
