-- Bytes that mean an instruction, and bytes that read as it.
use Rattle.std.specs.Prelude.{◌≡◌, ◌&&◌, Bool, List, false, length, true, ℕ}
use Rattle.x86_table.specs.declared.forms.Row.{Row}
use Rattle.x86_insn.specs.Views.{Seen, absent, register, immediate as shown_immediate, memory, target, View, displaced}
use Rattle.x86_table.specs.Bytes.{has_rex}
use Rattle.x86_table.specs.Fields.{Fields}
use Rattle.x86_table.specs.Reads.{shown, change_places, is_known, ReadsRow}
use Rattle.x86_parts.specs.Codes.{OrderedRow}
use Rattle.x86_encode.specs.Exchanges.{turned_if, exchanges, Codes}
use Rattle.x86_parts.specs.Filling.{exact}

-- the value of the operand is known; that of a branch target or of an address from rip never counts as known
abbrev pub is_valued : Seen → Bool
is_valued absent = true
is_valued (register r) = true
is_valued (shown_immediate v) = is_known v
is_valued (memory a d) = is_known (displaced a.base d)
is_valued (target v) = false

-- those of all operands are
abbrev pub all_valued : View → Bool
all_valued insn = is_valued insn.first && (is_valued insn.second && is_valued insn.third)

-- the instruction in the row's order as the row shows it: an immediate modulo the operand size, or no operand where it is no number of that size
abbrev pub in_row : Row → View → View
in_row r insn = record {
  name = insn.name;
  size = insn.size;
  «prefix» = insn.«prefix»;
  first = exact r.immediate r.first insn.first;
  second = exact r.immediate r.second insn.second;
  third = exact r.immediate r.third insn.third;
}

-- by the row at the index the bytes read as the instruction, an immediate modulo the operand size
pub record ReadsBack (bytes : List ℕ) (insn : View) (i : ℕ) : Type 0 where
  pub r : Row
  pub p : Fields
  pub exchanged : Bool
  pub order : exchanges (turned_if exchanged insn) ≡ exchanged
  pub reads : ReadsRow bytes (turned_if exchanged (in_row r (turned_if exchanged insn))) i r p

-- bytes that mean an instruction of which all values are known read as it
abbrev pub CodesRead : Type 0
CodesRead = (bytes : List ℕ) (insn : View) (i : ℕ) → all_valued insn ≡ true → Codes bytes insn i → ReadsBack bytes insn i

-- bytes that read as an instruction of which all values are known, an immediate modulo the operand size, mean it
abbrev pub ReadingsCode : Type 0
ReadingsCode = (bytes : List ℕ) (insn : View) (i : ℕ) → all_valued insn ≡ true → ReadsBack bytes insn i → Codes bytes insn i

-- bytes that read as just this instruction, of which all values are known, mean it
abbrev pub ExactReadingsCode : Type 0
ExactReadingsCode = (bytes : List ℕ) (insn : View) (i : ℕ) (r : Row) (p : Fields) → all_valued insn ≡ true → ReadsRow bytes insn i r p → Codes bytes insn i

-- of the operands in the row's order `xchg` shows the second one first just where it does when the bytes are read
abbrev pub ExchangesAsRead : Type 0
ExchangesAsRead = (bytes : List ℕ) (insn : View) (i : ℕ) (r : Row) (p : Fields) → OrderedRow bytes insn i r p
    → exchanges insn ≡ change_places r (shown (has_rex r p) (length bytes) p r.first) (shown (has_rex r p) (length bytes) p r.second)
