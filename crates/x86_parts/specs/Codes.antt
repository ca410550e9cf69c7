-- The shortest bytes that mean an instruction with these values.
use Rattle.std.specs.Prelude.{◌≡◌, ◌<◌, ◌-◌, ◌/◌, ◌^◌, ◌==◌, ◌&&◌, ◌⊎◌, ◌∷◌, if◌then◌else◌, Bool, List, None, Option, Some, [], false, length, nat_le, not, slice_get, true, ℕ}
use Rattle.x86_insn.specs.declared.insns.Mnemonic.{Mnemonic}
use Rattle.x86_insn.specs.declared.registers.Class.{Class}
use Rattle.x86_table.specs.declared.forms.Row.{Row}
use Rattle.x86_table.specs.declared.forms.Immediate.{Immediate}
use Rattle.x86_table.specs.declared.forms.Pattern.{Pattern}
use Rattle.x86_insn.specs.declared.registers.Class.TheVariants as class
use Rattle.x86_table.specs.declared.forms.Immediate.TheVariants as immediate
use Rattle.x86_table.specs.declared.forms.Pattern.TheVariants as pattern
use Rattle.x86_insn.specs.Views.{Seen, absent, register, immediate as shown_immediate, memory, target, View, displaced}
use Rattle.x86_table.specs.Bytes.{has_rex, bytes_of}
use Rattle.x86_table.specs.Fields.{Fields}
use Rattle.x86_table.specs.Fits.{is_signed, fits}
use Rattle.x86_table.specs.Reads.{shown}
use Rattle.x86_table.specs.Rows.{the_rows}
use Rattle.x86_table.specs.declared.mnemonics.integers.TheConstants.{MOV, MOVABS}

-- classes by numbers
abbrev pub class_number : Class → ℕ
class_number class.Byte = 0
class_number class.High = 1
class_number class.Word = 2
class_number class.Long = 3
class_number class.Quad = 4
class_number class.Xmm = 5

-- the last number of the row's immediate
abbrev pub last_of : Immediate → ℕ
last_of immediate.Absent = 2 ^ 64 - 1
last_of immediate.Byte = 2 ^ 8 - 1
last_of immediate.Count = 2 ^ 8 - 1
last_of immediate.Sext16 = 2 ^ 16 - 1
last_of immediate.Sext32 = 2 ^ 32 - 1
last_of immediate.Sext64 = 2 ^ 64 - 1
last_of immediate.Word = 2 ^ 16 - 1
last_of immediate.Long = 2 ^ 32 - 1
last_of immediate.LongSext = 2 ^ 64 - 1
last_of immediate.Quad = 2 ^ 64 - 1
last_of immediate.Rel8 = 2 ^ 64 - 1
last_of immediate.Short = 2 ^ 64 - 1
last_of immediate.Rel32 = 2 ^ 64 - 1

-- a value of 64 bits as a number up to the last one, signed or not; absent where it is neither
abbrev pub reduced : ℕ → ℕ → Seen
reduced last v = if nat_le v last then shown_immediate (Some v)
    else (if nat_le (2 ^ 64 - 1 - last / 2) v then shown_immediate (Some (v - (2 ^ 64 - 1 - last))) else absent)

-- the same of a value that may not be known
abbrev pub reduced_if : ℕ → Option ℕ → Seen
reduced_if last None = shown_immediate None
reduced_if last (Some v) = reduced last v

-- an immediate modulo the operand size
abbrev pub plain_immediate : Immediate → Seen → Seen
plain_immediate i absent = absent
plain_immediate i (register r) = register r
plain_immediate i (shown_immediate v) = reduced_if (last_of i) v
plain_immediate i (memory a d) = memory a d
plain_immediate i (target v) = target v

-- a branch target counts as not known
abbrev pub plain_target : Seen → Seen
plain_target absent = absent
plain_target (register r) = register r
plain_target (shown_immediate v) = shown_immediate v
plain_target (memory a d) = memory a d
plain_target (target v) = target None

-- an address from rip counts as not known
abbrev pub plain_memory : Seen → Seen
plain_memory absent = absent
plain_memory (register r) = register r
plain_memory (shown_immediate v) = shown_immediate v
plain_memory (memory a d) = memory a (displaced a.base d)
plain_memory (target v) = target v

-- an operand as it stands in a row with this immediate
abbrev pub normal : Immediate → Pattern → Seen → Seen
normal i pattern.Absent o = o
normal i (pattern.RegMem c n) o = plain_memory o
normal i (pattern.Reg c) o = o
normal i (pattern.Low c) o = o
normal i (pattern.Accumulator c) o = o
normal i pattern.Cl o = o
normal i pattern.One o = o
normal i pattern.Immediate o = plain_immediate i o
normal i pattern.Target o = plain_target o

-- the fields of a row show the instruction, an immediate modulo the operand size
pub record Means (r : Row) (p : Fields) (insn : View) : Type 0 where
  pub name : insn.name.0 ≡ r.name.0
  pub size : insn.size ≡ r.size
  pub words : insn.«prefix» ≡ p.«prefix»
  pub first : normal r.immediate r.first insn.first ≡ shown (has_rex r p) (length (bytes_of r p)) p r.first
  pub second : normal r.immediate r.second insn.second ≡ shown (has_rex r p) (length (bytes_of r p)) p r.second
  pub third : normal r.immediate r.third insn.third ≡ shown (has_rex r p) (length (bytes_of r p)) p r.third

-- the bytes mean the instruction by the table's row at the index, with these fields
pub record OrderedRow (bytes : List ℕ) (insn : View) (i : ℕ) (r : Row) (p : Fields) : Type 0 where
  pub found : slice_get the_rows i ≡ Some r
  pub fit : fits r p ≡ true
  pub means : Means r p insn
  pub bytes_are : bytes ≡ bytes_of r p

-- the bytes mean the instruction by this row; what is not known now stands in a full field of zeros
abbrev pub OrderedCodes : List ℕ → View → ℕ → Type 0
OrderedCodes bytes insn i = (r : Row) × (p : Fields) × OrderedRow bytes insn i r p

-- in order of the bytes
abbrev pub AtMost : List ℕ → List ℕ → Type 0
AtMost [] ys = Unit {0}
AtMost (x ∷ xs) [] = ⊥
AtMost (x ∷ xs) (y ∷ ys) = (x < y) ⊎ ((x ≡ y) × AtMost xs ys)

-- shorter, or of equal length and of an earlier row, or of the same row and at most as great
abbrev pub Before : List ℕ → ℕ → List ℕ → ℕ → Type 0
Before bytes i other j = (length bytes < length other) ⊎ ((length bytes ≡ length other) × ((i < j) ⊎ ((i ≡ j) × AtMost bytes other)))

-- the bytes mean the instruction, and come before all others that do
pub record IsOrderedCode (bytes : List ℕ) (insn : View) : Type 0 where
  pub row : ℕ
  pub codes : OrderedCodes bytes insn row
  pub least : (other : List ℕ) (j : ℕ) → OrderedCodes other insn j → Before bytes row other j

-- no bytes mean the instruction
abbrev pub HasNoOrderedCode : View → Type 0
HasNoOrderedCode insn = (bytes : List ℕ) (i : ℕ) → OrderedCodes bytes insn i → ⊥

-- some bytes mean the instruction in the row's order
abbrev pub HasOrderedCode : View → Type 0
HasOrderedCode insn = (bytes : List ℕ) × (i : ℕ) × OrderedCodes bytes insn i

-- the 64-bit register of an operand
abbrev pub is_quad : Seen → Bool
is_quad absent = false
is_quad (register r) = class_number r.class == 4
is_quad (shown_immediate v) = false
is_quad (memory a d) = false
is_quad (target v) = false

-- a known value that 32 bits, sign-extended, do not hold
abbrev pub is_wide : Seen → Bool
is_wide absent = false
is_wide (register r) = false
is_wide (shown_immediate None) = false
is_wide (shown_immediate (Some v)) = not (is_signed 32 64 v)
is_wide (memory a d) = false
is_wide (target v) = false

-- the instruction of a name
abbrev pub named : Mnemonic → View → View
named name insn = record insn { name = name }

-- mov of a known value outside -2^31 to 2^31 - 1 into a 64-bit register is movabs
abbrev pub name_meant : View → ℕ
name_meant insn = if (insn.name.0 == MOV) && ((insn.size == 64) && (is_quad insn.first && is_wide insn.second)) then MOVABS else insn.name.0

-- the instruction that is meant
abbrev pub meant : View → View
meant insn = named (record { 0 = name_meant insn }) insn
