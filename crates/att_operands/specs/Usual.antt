-- The usual operands, by their parts.
use Rattle.std.specs.Prelude.{None}
use Rattle.x86_insn.specs.declared.amounts.Amount.{Amount}
use Rattle.x86_insn.specs.declared.amounts.Value.{Value}
use Rattle.att_operands.specs.declared.addresses.ReadAddress.{ReadAddress}
use Rattle.att_operands.specs.declared.values.ReadAmount.{ReadAmount}
use Rattle.att_operands.specs.declared.operands.ReadOperand.TheVariants.{Immediate, Memory}
use Rattle.att_operands.specs.declared.operands.FoundOperand.{FoundOperand}

-- memory at an address without a segment
abbrev pub found_memory : ReadAddress → Value → FoundOperand
found_memory place held = record { operand = Memory (record { segment = None; base = place.base; index = place.index }) held; next = place.next }

-- the same with a displacement of this amount
abbrev pub memory_of : ReadAddress → Amount → FoundOperand
memory_of place amount = found_memory place (record { amount = amount; suffix = None })

-- the immediate of this amount, and the place behind it
abbrev pub immediate_of : ReadAmount → FoundOperand
immediate_of found = record { operand = Immediate (record { amount = found.amount; suffix = None }); next = found.next }
