-- What a visitor answers for an operand, by its kind.
use Rattle.x86_insn.specs.declared.registers.Reg.{Reg}
use Rattle.x86_insn.specs.declared.amounts.Value.{Value}
use Rattle.x86_insn.specs.declared.operands.Memory.{Memory}
use Rattle.x86_insn.specs.declared.operands.Operand.{Operand}
use Rattle.x86_insn.specs.declared.operands.Operand.TheVariants as operand

-- the visitor at first, the answer, and the visitor at last
abbrev pub FoldsOperand : {V Out : Type 0} (register_gives : V → Reg → Out → V → Type 0) (immediate_gives : V → Value → Out → V → Type 0)
    (memory_gives : V → Memory → Out → V → Type 0) (target_gives : V → Value → Out → V → Type 0) → Operand → V → Out → V → Type 0
FoldsOperand register_gives immediate_gives memory_gives target_gives (operand.Register reg) first answer last = register_gives first reg answer last
FoldsOperand register_gives immediate_gives memory_gives target_gives (operand.Immediate held) first answer last = immediate_gives first held.now answer last
FoldsOperand register_gives immediate_gives memory_gives target_gives (operand.Memory place) first answer last = memory_gives first place answer last
FoldsOperand register_gives immediate_gives memory_gives target_gives (operand.Target held) first answer last = target_gives first held.now answer last
