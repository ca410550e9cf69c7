-- One token, or two.
use Rattle.asm_operands.proofs.LoneLemmas.{one_alone, two_alone}
use Rattle.asm_operands.proofs.constants.lone_constant.Goals as goal

pub returns-in-len1 : goal.returns-in-len1
returns-in-len1 c = one_alone c.args.tokens.now _ c.leaf.result c.in-len1.len_at_least c.in-len1.len_below c.leaf.ensures

pub returns-in-len2 : goal.returns-in-len2
returns-in-len2 c = two_alone c.args.tokens.now _ _ c.turned_number.result c.in-len2.len_at_least c.in-len2.len_below c.turned_number.ensures
