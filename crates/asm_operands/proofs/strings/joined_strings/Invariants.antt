-- The bytes so far, and those of the operands to come, are those of all.
use Rattle.std.proofs.Common.{◌≡◌}
use Rattle.asm_operands.specs.Operands.{joined_strings, behind}
use Rattle.asm_operands.specs.OperandParts.{operands_left}
use Rattle.asm_operands.proofs.strings.joined_strings.Given as goal

abbrev pub invariant-loop-operand : goal.invariant-loop-operand
invariant-loop-operand l = behind l.out.items (joined_strings l.ended (operands_left l.operand-iterator)) ≡ joined_strings l.ended (operands_left l.initial.operand-iterator)
