-- A token that is a number is an operand by itself, and so are two with a prefix operator.
use Rattle.std.proofs.Common.{map}
use Rattle.asm_base.specs.Tokens.{spelled}
use Rattle.asm_operands.proofs.LeafLemmas.{only_constant}
use Rattle.asm_operands.proofs.LoneLemmas.{two_alone, lone_is}
use Rattle.asm_operands.proofs.constants.constant_operand.Goals as goal

pub returns-in-len1 : goal.returns-in-len1
returns-in-len1 c = only_constant c.args.operand.now _ c.leaf.result c.in-len1.len_at_least c.in-len1.len_below c.leaf.ensures

pub returns-in-len2 : goal.returns-in-len2
returns-in-len2 c =
    lone_is (map spelled c.args.operand.now) c.turned_number.result
    (two_alone c.args.operand.now _ _ c.turned_number.result c.in-len2.len_at_least c.in-len2.len_below c.turned_number.ensures)
