-- The expressions so far, and what the operands to come give, are what all give.
use Rattle.std.proofs.Common.{◌≡◌, map}
use Rattle.asm_expr.specs.Trees.{tree_of}
use Rattle.asm_operands.specs.Operands.{each, behind}
use Rattle.asm_operands.specs.OperandParts.{operands_left}
use Rattle.asm_operands.specs.Expressions.{expression_of}
use Rattle.asm_operands.proofs.trees.expressions.Given as goal

abbrev pub invariant-loop-operand : goal.invariant-loop-operand
invariant-loop-operand l = behind (map tree_of l.exprs.items) (each expression_of (operands_left l.operand-iterator)) ≡ each expression_of (operands_left l.initial.operand-iterator)
