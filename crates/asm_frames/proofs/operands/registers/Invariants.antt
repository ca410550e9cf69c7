-- The registers so far, and what the operands to come give, are what all give.
use Rattle.std.proofs.Common.{◌≡◌}
use Rattle.asm_operands.specs.Operands.{each, behind}
use Rattle.asm_operands.specs.OperandParts.{operands_left}
use Rattle.asm_values.specs.PlacedBy.{placed_by}
use Rattle.asm_values.specs.State.{known_here}
use Rattle.asm_frames.specs.Operands.{register_in}
use Rattle.asm_frames.proofs.operands.registers.Given as goal

abbrev pub invariant-loop-operand : goal.invariant-loop-operand
invariant-loop-operand l = behind l.registers.items (each (register_in (known_here (placed_by l.assembler))) (operands_left l.operand-iterator))
    ≡ each (register_in (known_here (placed_by l.assembler))) (operands_left l.initial.operand-iterator)
