-- The tokens that are left fall, and what was counted goes on as it began.
use Rattle.std.proofs.Common.{◌+◌, ◌*◌, ◌-◌, length}
use Rattle.asm_operands.proofs.CutLemmas.{IsLeft}
use Rattle.asm_operands.proofs.constants.+constants.Given as goal

abbrev pub decreases-tight_operand : goal.decreases-tight_operand
decreases-tight_operand g l = 6 * (length l.tokens.now - l.at) + 5

abbrev pub decreases-right_operand : goal.decreases-right_operand
decreases-right_operand g l = 6 * (length l.tokens.now - l.at) + 5

abbrev pub decreases-expression : goal.decreases-expression
decreases-expression g l = 6 * (length l.tokens.now - l.at.now) + 4

abbrev pub decreases-operand : goal.decreases-operand
decreases-operand g l = 6 * (length l.tokens.now - l.at) + 3

abbrev pub decreases-turned_operand : goal.decreases-turned_operand
decreases-turned_operand g l = 6 * (length l.tokens.now - l.at) + 2

abbrev pub decreases-closed_operand : goal.decreases-closed_operand
decreases-closed_operand g l = 6 * (length l.tokens.now - l.at) + 1

abbrev pub invariant-expression-loop-left : goal.invariant-expression-loop-left
invariant-expression-loop-left g l = IsLeft (g.L.Leaves.worth l.leaves) l.tokens l.at l.level l.depth l.left

abbrev pub decreases-expression-loop-left : goal.decreases-expression-loop-left
decreases-expression-loop-left g l = length l.tokens - l.left.next
