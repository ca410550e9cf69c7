-- A leaf with no operator behind it that binds tightly enough is an expression.
use Rattle.asm_operands.proofs.CutLemmas.{operand_alone}
use Rattle.asm_operands.proofs.constants.lone_number.Goals as goal

pub returns-else-level-found : goal.returns-else-level-found
returns-else-level-found g c depth =
    operand_alone (g.L.Leaves.worth c.args.leaves.now) c.args.tokens.now c.args.at c.args.level depth _ c.if-level-found.false (c.in_ok-found.ensures depth)
