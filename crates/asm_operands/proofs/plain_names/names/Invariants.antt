-- The names so far, and those of the operands to come, are those of all.
use Rattle.std.proofs.Common.{◌≡◌}
use Rattle.asm_operands.specs.Operands.{each, behind}
use Rattle.asm_operands.specs.OperandParts.{operands_left}
use Rattle.asm_operands.specs.NamedTrees.{plain_of}
use Rattle.asm_operands.proofs.plain_names.names.Given as goal

abbrev pub invariant-loop-operand : goal.invariant-loop-operand
invariant-loop-operand l = behind l.names.items (each plain_of (operands_left l.operand-iterator)) ≡ each plain_of (operands_left l.initial.operand-iterator)
