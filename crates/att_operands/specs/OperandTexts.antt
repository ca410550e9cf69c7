-- The operand at a place among the tokens, read from the left: what it is as a text, and the place behind it, or its fault.
use Rattle.std.specs.Prelude.{◌≡◌, ℕ, ◌+◌, ◌==◌, ◌||◌, Bool, true, false, List, Option, Some, None, Result, Ok, Err, slice_get, if◌then◌else◌}
use Rattle.asm_base.specs.Tokens.{SpelledToken}
use Rattle.asm_expr.specs.Trees.{number}
use Rattle.x86_insn.specs.declared.registers.Reg.{Reg}
use Rattle.x86_insn.specs.declared.insns.Segment.{Segment}
use Rattle.x86_insn.specs.declared.insns.Base.TheVariants as base
use Rattle.x86_insn.specs.declared.insns.Index.TheVariants as index
use Rattle.x86_insn.specs.declared.insns.Address.{Address}
use Rattle.att_operands.specs.declared.faults.OperandCause.{OperandCause}
use Rattle.att_operands.specs.declared.faults.OperandCause.TheVariants.{BadOperand}
use Rattle.att_operands.specs.declared.registers.NamedRegister.{NamedRegister}
use Rattle.att_operands.specs.declared.registers.NamedRegister.TheVariants as named
use Rattle.att_operands.specs.declared.addresses.ReadAddress.{ReadAddress}
use Rattle.att_operands.specs.declared.operands.ReadOperand.{ReadOperand}
use Rattle.att_operands.specs.declared.operands.ReadOperand.TheVariants.{Register, Immediate, Memory, Target}
use Rattle.att_operands.specs.declared.operands.FoundOperand.{FoundOperand}
use Rattle.att_operands.specs.Marks.{mark_at, ends_at}
use Rattle.att_operands.specs.Addresses.{register_by, address_at}
use Rattle.att_operands.specs.Values.{ValueText, ReadText, value_at, begun_at, IsValueOf}

-- an operand as its text
pub data OperandText : Type 0 where
  register : Reg → OperandText
  immediate : ValueText → OperandText
  memory : Address → ValueText → OperandText
  target : ValueText → OperandText

-- an operand that was read, and the place behind it
pub record ReadPart : Type 0 where
  pub operand : OperandText
  pub next : ℕ

-- an operand that was read, and the place behind it
abbrev pub part : OperandText → ℕ → ReadPart
part operand next = record { operand = operand; next = next }

-- the displacement of memory that shows none
abbrev pub no_displacement : ValueText
no_displacement = record { tree = number 0; suffix = None }

-- memory at an address that was read
abbrev pub addressed : Option Segment → ValueText → Option ReadAddress → Result ReadPart OperandCause
addressed segment text None = Err BadOperand
addressed segment text (Some found) = Ok (part (memory (record { segment = segment; base = found.base; index = found.index }) text) found.next)

-- memory at a displacement alone
abbrev pub displaced_alone : Option Segment → ReadText → ReadPart
displaced_alone segment found = part (memory (record { segment = segment; base = base.Absent; index = index.Absent }) found.text) found.next

-- memory at a displacement, and an address if it is written
unfoldable pub displaced : List SpelledToken → Option Segment → ReadText → Result ReadPart OperandCause
displaced tokens segment found =
    if mark_at tokens found.next == 40 then addressed segment found.text (address_at tokens (found.next + 1)) else Ok (displaced_alone segment found)

-- the same, where the displacement was read
abbrev pub displaced_by : List SpelledToken → Option Segment → Result ReadText OperandCause → Result ReadPart OperandCause
displaced_by tokens segment (Ok found) = displaced tokens segment found
displaced_by tokens segment (Err fault) = Err fault

-- the parenthesis of an address stands there: no expression begins with `%` or a comma
abbrev pub opens_address : List SpelledToken → ℕ → Bool
opens_address tokens at = if mark_at tokens at == 40 then mark_at tokens (at + 1) == 37 || mark_at tokens (at + 1) == 44 else false

-- the memory operand at this place
unfoldable pub memory_at : List SpelledToken → Option Segment → ℕ → Result ReadPart OperandCause
memory_at tokens segment at =
    if opens_address tokens at then addressed segment no_displacement (address_at tokens (at + 1)) else displaced_by tokens segment (begun_at tokens at)

-- the operand that begins with a name behind a `%`: a register, or memory in a segment
abbrev pub named_place : List SpelledToken → Option NamedRegister → ℕ → Result ReadPart OperandCause
named_place tokens None at = Err BadOperand
named_place tokens (Some (named.Plain reg)) at = Ok (part (register reg) at)
named_place tokens (Some named.Rip) at = Err BadOperand
named_place tokens (Some (named.Segment segment)) at = if mark_at tokens at == 58 then memory_at tokens (Some segment) (at + 1) else Err BadOperand

-- the register or the memory operand at this place
unfoldable pub place_at : List SpelledToken → ℕ → Result ReadPart OperandCause
place_at tokens at =
    if mark_at tokens at == 37 then named_place tokens (register_by (slice_get tokens (at + 1))) (at + 2) else memory_at tokens None at

-- the immediate of this value
abbrev pub immediate_by : Result ReadText OperandCause → Result ReadPart OperandCause
immediate_by (Ok found) = Ok (part (immediate found.text) found.next)
immediate_by (Err fault) = Err fault

-- the branch target of this value
abbrev pub target_by : Result ReadText OperandCause → Result ReadPart OperandCause
target_by (Ok found) = Ok (part (target found.text) found.next)
target_by (Err fault) = Err fault

-- the branch target at this place, where an address alone is none
abbrev pub target_at : List SpelledToken → ℕ → Result ReadPart OperandCause
target_at tokens at = if opens_address tokens at then Err BadOperand else target_by (begun_at tokens at)

-- the operand at this place that is no immediate, of a branch or of another instruction
abbrev pub other_by : Bool → List SpelledToken → ℕ → Result ReadPart OperandCause
other_by true tokens at = if mark_at tokens at == 42 then place_at tokens (at + 1) else target_at tokens at
other_by false tokens at = place_at tokens at

-- the operand at this place, of a branch or of another instruction
abbrev pub operand_by : Bool → List SpelledToken → ℕ → Result ReadPart OperandCause
operand_by branch tokens at = if mark_at tokens at == 36 then immediate_by (value_at tokens (at + 1)) else other_by branch tokens at

-- an operand behind which nothing but a comma stands
abbrev pub ended : List SpelledToken → Result ReadPart OperandCause → Result ReadPart OperandCause
ended tokens (Ok found) = if ends_at tokens found.next then Ok found else Err BadOperand
ended tokens (Err fault) = Err fault

-- the whole operand at this place
unfoldable pub operand_at : Bool → List SpelledToken → ℕ → Result ReadPart OperandCause
operand_at branch tokens at = ended tokens (operand_by branch tokens at)

-- the address is this one, and the value has this text
pub record IsMemory (own due : Address) (is_value : Type 0) : Type 0 where
  pub address : own ≡ due
  pub value : is_value

-- the operand has this text
abbrev pub IsOperandOf : ReadOperand → OperandText → Type 0
IsOperandOf (Register reg) (register due) = reg ≡ due
IsOperandOf (Immediate held) (immediate text) = IsValueOf held text
IsOperandOf (Memory address held) (memory due text) = IsMemory address due (IsValueOf held text)
IsOperandOf (Target held) (target text) = IsValueOf held text
IsOperandOf _ _ = ⊥

-- the operand has the text that was read, and ends where that ends
pub record IsPartRead (found : FoundOperand) (due : ReadPart) : Type 0 where
  pub operand : IsOperandOf found.operand due.operand
  pub next : found.next ≡ due.next
