-- Which bytes read as an instruction (Intel SDM, volume 2, chapter 2): those of some row and some fields that fit it, which the row shows as
-- that instruction.
use Rattle.std.specs.Prelude.{◌≡◌, ◌<◌, ◌≤◌, ◌==◌, ◌+◌, ◌%◌, ◌^◌, ◌&&◌, ◌++◌, ℕ, List, Bool, true, false, Option, Some, None, slice_get, length, if◌then◌else◌}
use Rattle.x86_insn.specs.Views.{Seen, absent, register, immediate as shown_immediate, memory, target, View}
use Rattle.x86_insn.specs.declared.registers.Class.{Class}
use Rattle.x86_insn.specs.declared.registers.Class.TheVariants as class
use Rattle.x86_insn.specs.declared.insns.Segment.{Segment}
use Rattle.x86_insn.specs.declared.insns.Base.{Base}
use Rattle.x86_insn.specs.declared.insns.Base.TheVariants as base
use Rattle.x86_insn.specs.declared.insns.Index.{Index}
use Rattle.x86_insn.specs.declared.insns.Index.TheVariants as index
use Rattle.x86_table.specs.declared.forms.Pattern.{Pattern}
use Rattle.x86_table.specs.declared.forms.Pattern.TheVariants as pattern
use Rattle.x86_table.specs.declared.forms.Row.{Row}
use Rattle.x86_table.specs.declared.mnemonics.integers.TheConstants.{XCHG}
use Rattle.x86_table.specs.Rows.{the_rows}
use Rattle.x86_table.specs.Fields.{Location, Fields, nowhere, direct, from_rip, bare, based}
use Rattle.x86_table.specs.Bytes.{has_rex, bytes_of}
use Rattle.x86_table.specs.Fits.{is_byte, is_middle, fits}

-- an 8-bit register 4 to 7 is spl to dil with REX, and ah to bh without
abbrev pub class_shown : Bool → Class → ℕ → Class
class_shown true c n = c
class_shown false c n = if is_byte c && is_middle n then class.High else c

-- a register of the class
abbrev pub register_shown : Bool → Class → ℕ → Seen
register_shown rex c n = register (record { class = class_shown rex c n; number = n })

-- a place that is counted from the end of an instruction of so many bytes, counted from its first byte
abbrev pub from_start : ℕ → Option ℕ → Option ℕ
from_start len None = None
from_start len (Some v) = Some ((v + len) % 2 ^ 64)

-- memory at an address
abbrev pub memory_shown : Option Segment → Base → Index → Option ℕ → Seen
memory_shown s b i d = memory (record { segment = s; base = b; index = i }) d

-- what a place shows
abbrev pub place_shown : Bool → Class → ℕ → Option Segment → Location → Seen
place_shown rex c len s nowhere = absent
place_shown rex c len s (direct n) = register_shown rex c n
place_shown rex c len s (from_rip d) = memory_shown s base.Rip index.Absent (from_start len d)
place_shown rex c len s (bare i d) = memory_shown s base.Absent i d
place_shown rex c len s (based b i sb w d) = memory_shown s (base.Of b) i d

-- what an operand of a row shows of the fields
abbrev pub shown : Bool → ℕ → Fields → Pattern → Seen
shown rex len p pattern.Absent = absent
shown rex len p (pattern.RegMem c n) = place_shown rex c len p.segment p.place
shown rex len p (pattern.Reg c) = register_shown rex c p.reg
shown rex len p (pattern.Low c) = register_shown rex c p.low
shown rex len p (pattern.Accumulator c) = register (record { class = c; number = 0 })
shown rex len p pattern.Cl = register (record { class = class.Byte; number = 1 })
shown rex len p pattern.One = shown_immediate (Some 1)
shown rex len p pattern.Immediate = shown_immediate p.held
shown rex len p pattern.Target = target (from_start len p.held)

-- the operand is a register
abbrev pub is_register : Seen → Bool
is_register absent = false
is_register (register r) = true
is_register (shown_immediate v) = false
is_register (memory a d) = false
is_register (target v) = false

-- the operand is the accumulator of its class
abbrev pub is_accumulator : Seen → Bool
is_accumulator absent = false
is_accumulator (register r) = r.number == 0
is_accumulator (shown_immediate v) = false
is_accumulator (memory a d) = false
is_accumulator (target v) = false

-- of two registers that `xchg` exchanges, the accumulator stands first: here they have to change places
abbrev pub change_places : Row → Seen → Seen → Bool
change_places r one other = (r.name.0 == XCHG) && (is_register one && is_accumulator other)

-- the instruction that a row shows of the fields
unfoldable pub meaning : Row → Fields → View
meaning r p = let rex = has_rex r p in let len = length (bytes_of r p) in
    let one = shown rex len p r.first in let other = shown rex len p r.second in let changed = change_places r one other in record {
      name = r.name;
      size = r.size;
      «prefix» = p.«prefix»;
      first = if changed then other else one;
      second = if changed then one else other;
      third = shown rex len p r.third;
    }

-- the number stands
abbrev pub is_known : Option ℕ → Bool
is_known None = false
is_known (Some v) = true

-- the displacement stands, where there is one
abbrev pub is_known_place : Location → Bool
is_known_place nowhere = true
is_known_place (direct n) = true
is_known_place (from_rip None) = false
is_known_place (from_rip (Some v)) = true
is_known_place (bare i None) = false
is_known_place (bare i (Some v)) = true
is_known_place (based b i s w None) = false
is_known_place (based b i s w (Some v)) = true

-- the bytes read as the instruction by this row, the table's at the index, and these fields
pub record ReadsRow (bytes : List ℕ) (insn : View) (i : ℕ) (r : Row) (p : Fields) : Type 0 where
  pub found : slice_get the_rows i ≡ Some r
  pub fit : fits r p ≡ true
  pub held_known : is_known p.held ≡ true
  pub place_known : is_known_place p.place ≡ true
  pub bytes_are : bytes ≡ bytes_of r p
  pub insn_is : insn ≡ meaning r p

-- the bytes read as the instruction
abbrev pub Reads : List ℕ → View → Type 0
Reads bytes insn = (i : ℕ) × (r : Row) × (p : Fields) × ReadsRow bytes insn i r p

-- no bytes read as two instructions, and none that read begin others that read
abbrev pub ReadsOneWay : Type 0
ReadsOneWay = (x y more others : List ℕ) (a b : View) → Reads x a → Reads y b → x ++ more ≡ y ++ others → (a ≡ b) × (x ≡ y)

-- an instruction has at least one byte, and at most 15 (Intel SDM, volume 2, section 2.3.11)
abbrev pub InstructionLength : Type 0
InstructionLength = (bytes : List ℕ) (insn : View) → Reads bytes insn → (0 < length bytes) × (length bytes ≤ 15)
