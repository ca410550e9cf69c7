-- The fields that the encoder takes for a row: those with the fewest bytes.
use Rattle.std.specs.Prelude.{◌%◌, ◌==◌, ◌&&◌, ◌||◌, ◌∷◌, if◌then◌else◌, Bool, List, None, Option, Some, [], false, length, not, true, ℕ}
use Rattle.x86_insn.specs.declared.registers.Reg.{Reg}
use Rattle.x86_insn.specs.declared.insns.Segment.{Segment}
use Rattle.x86_insn.specs.declared.insns.Index.{Index}
use Rattle.x86_insn.specs.declared.insns.Base.{Base}
use Rattle.x86_insn.specs.declared.insns.Address.{Address}
use Rattle.x86_table.specs.declared.forms.Row.{Row}
use Rattle.x86_table.specs.declared.forms.Immediate.{Immediate}
use Rattle.x86_table.specs.declared.forms.Shape.{Shape}
use Rattle.x86_table.specs.declared.forms.Pattern.{Pattern}
use Rattle.x86_table.specs.declared.parts.Width.{Width}
use Rattle.x86_insn.specs.declared.insns.Base.TheVariants as base
use Rattle.x86_table.specs.declared.forms.Immediate.TheVariants as immediate
use Rattle.x86_insn.specs.declared.insns.Index.TheVariants as index
use Rattle.x86_table.specs.declared.forms.Pattern.TheVariants as pattern
use Rattle.x86_insn.specs.declared.insns.Segment.TheVariants as segment
use Rattle.x86_table.specs.declared.forms.Shape.TheVariants as shape
use Rattle.x86_table.specs.declared.parts.Width.TheVariants as width
use Rattle.x86_insn.specs.Views.{Seen, absent, register, immediate as shown_immediate, memory, target, View}
use Rattle.x86_table.specs.Bytes.{rex_bits, has_rex, bytes_of}
use Rattle.x86_table.specs.Fields.{Location, nowhere, direct, from_rip, bare, based, Fields}
use Rattle.x86_table.specs.Fits.{is_signed, is_byte, is_middle, fits}
use Rattle.x86_table.specs.Reads.{shown}
use Rattle.x86_parts.specs.Codes.{class_number, normal}

-- a register or memory by ModRM.rm
abbrev pub is_rm : Pattern → Bool
is_rm pattern.Absent = false
is_rm (pattern.RegMem c n) = true
is_rm (pattern.Reg c) = false
is_rm (pattern.Low c) = false
is_rm (pattern.Accumulator c) = false
is_rm pattern.Cl = false
is_rm pattern.One = false
is_rm pattern.Immediate = false
is_rm pattern.Target = false

-- a register by ModRM.reg
abbrev pub is_reg : Pattern → Bool
is_reg pattern.Absent = false
is_reg (pattern.RegMem c n) = false
is_reg (pattern.Reg c) = true
is_reg (pattern.Low c) = false
is_reg (pattern.Accumulator c) = false
is_reg pattern.Cl = false
is_reg pattern.One = false
is_reg pattern.Immediate = false
is_reg pattern.Target = false

-- a register in the opcode
abbrev pub is_low : Pattern → Bool
is_low pattern.Absent = false
is_low (pattern.RegMem c n) = false
is_low (pattern.Reg c) = false
is_low (pattern.Low c) = true
is_low (pattern.Accumulator c) = false
is_low pattern.Cl = false
is_low pattern.One = false
is_low pattern.Immediate = false
is_low pattern.Target = false

-- an immediate or a branch target
abbrev pub is_held : Pattern → Bool
is_held pattern.Absent = false
is_held (pattern.RegMem c n) = false
is_held (pattern.Reg c) = false
is_held (pattern.Low c) = false
is_held (pattern.Accumulator c) = false
is_held pattern.Cl = false
is_held pattern.One = false
is_held pattern.Immediate = true
is_held pattern.Target = true

-- the operand at the first place that passes
abbrev pub chosen : Bool → Bool → Bool → Seen → Seen → Seen → Seen
chosen a b c x y z = if a then x else (if b then y else (if c then z else absent))

-- the operand of a role
unfoldable pub pick : (Pattern → Bool) → Row → View → Seen
pick f r insn = chosen (f r.first) (f r.second) (f r.third) (normal r.immediate r.first insn.first) (normal r.immediate r.second insn.second)
    (normal r.immediate r.third insn.third)

-- a register's number
abbrev pub number_of : Seen → ℕ
number_of absent = 0
number_of (register r) = r.number
number_of (shown_immediate v) = 0
number_of (memory a d) = 0
number_of (target v) = 0

-- the segment of an address
abbrev pub segment_of : Seen → Option Segment
segment_of absent = None
segment_of (register r) = None
segment_of (shown_immediate v) = None
segment_of (memory a d) = a.segment
segment_of (target v) = None

-- the value of an immediate or of a target
abbrev pub held_of : Seen → Option ℕ
held_of absent = Some 0
held_of (register r) = Some 0
held_of (shown_immediate v) = v
held_of (memory a d) = Some 0
held_of (target v) = v

-- ModRM.reg
abbrev pub reg_of : Shape → Seen → ℕ
reg_of shape.Plain o = 0
reg_of shape.Low o = 0
reg_of shape.LowNotFirst o = 0
reg_of (shape.Fixed b) o = 0
reg_of (shape.Digit d m) o = d
reg_of (shape.Slash m) o = number_of o

-- what stands in ModRM.rm
abbrev pub rm_operand : Shape → Seen → Seen
rm_operand shape.Plain o = absent
rm_operand shape.Low o = absent
rm_operand shape.LowNotFirst o = absent
rm_operand (shape.Fixed b) o = absent
rm_operand (shape.Digit d m) o = o
rm_operand (shape.Slash m) o = o

-- the register in the opcode
abbrev pub low_of : Shape → Seen → ℕ
low_of shape.Plain o = 0
low_of shape.Low o = number_of o
low_of shape.LowNotFirst o = number_of o
low_of (shape.Fixed b) o = 0
low_of (shape.Digit d m) o = 0
low_of (shape.Slash m) o = 0

-- the immediate or the distance
abbrev pub held_in : Immediate → Seen → Option ℕ
held_in immediate.Absent o = Some 0
held_in immediate.Byte o = held_of o
held_in immediate.Count o = held_of o
held_in immediate.Sext16 o = held_of o
held_in immediate.Sext32 o = held_of o
held_in immediate.Sext64 o = held_of o
held_in immediate.Word o = held_of o
held_in immediate.Long o = held_of o
held_in immediate.LongSext o = held_of o
held_in immediate.Quad o = held_of o
held_in immediate.Rel8 o = held_of o
held_in immediate.Short o = held_of o
held_in immediate.Rel32 o = held_of o

-- SIB stands only where it must
abbrev pub needs_sib : Index → ℕ → Bool
needs_sib index.Absent b = b % 8 == 4
needs_sib (index.By i s) b = true

-- the least displacement that holds the value
abbrev pub least_width : ℕ → Option ℕ → Width
least_width b None = width.Long
least_width b (Some v) = if (v == 0) && not (b % 8 == 5) then width.Absent else (if is_signed 8 64 v then width.Byte else width.Long)

-- an address with the fewest bytes
abbrev pub place_at : Base → Index → Option ℕ → Location
place_at base.Absent i d = bare i d
place_at base.Rip i d = from_rip d
place_at (base.Of b) i d = based b i (needs_sib i b) (least_width b d) d

-- where an operand stands
abbrev pub place_of : Seen → Location
place_of absent = nowhere
place_of (register r) = direct r.number
place_of (shown_immediate v) = nowhere
place_of (memory a d) = place_at a.base a.index d
place_of (target v) = nowhere

-- spl, bpl, sil or dil
abbrev pub wants : Seen → Bool
wants absent = false
wants (register r) = is_byte r.class && is_middle r.number
wants (shown_immediate v) = false
wants (memory a d) = false
wants (target v) = false

-- one of the operands is
abbrev pub wants_one : Row → View → Bool
wants_one r n = wants (normal r.immediate r.first n.first) || (wants (normal r.immediate r.second n.second) || wants (normal r.immediate r.third n.third))

-- the fields but for REX without bits
unfoldable pub without_rex : Row → View → Fields
without_rex r insn = record {
  «prefix» = insn.«prefix»;
  segment = segment_of (rm_operand r.shape (pick is_rm r insn));
  bare_rex = false;
  reg = reg_of r.shape (pick is_reg r insn);
  low = low_of r.shape (pick is_low r insn);
  place = place_of (rm_operand r.shape (pick is_rm r insn));
  held = held_in r.immediate (pick is_held r insn);
}

-- the fields of an instruction in a row
unfoldable pub built : Row → View → Fields
built r insn = let p = without_rex r insn in record p { bare_rex = (rex_bits r p == 0) && wants_one r insn }

-- EQUAL OPERANDS

-- both known and equal, or both not known
abbrev pub same_value : Option ℕ → Option ℕ → Bool
same_value None None = true
same_value None (Some w) = false
same_value (Some v) None = false
same_value (Some v) (Some w) = v == w

-- segments by numbers
abbrev pub segment_number : Option Segment → ℕ
segment_number None = 0
segment_number (Some segment.Fs) = 1
segment_number (Some segment.Gs) = 2

-- equal bases
abbrev pub same_base : Base → Base → Bool
same_base base.Absent base.Absent = true
same_base base.Absent base.Rip = false
same_base base.Absent (base.Of c) = false
same_base base.Rip base.Absent = false
same_base base.Rip base.Rip = true
same_base base.Rip (base.Of c) = false
same_base (base.Of b) base.Absent = false
same_base (base.Of b) base.Rip = false
same_base (base.Of b) (base.Of c) = b == c

-- equal indices
abbrev pub same_index : Index → Index → Bool
same_index index.Absent index.Absent = true
same_index index.Absent (index.By j t) = false
same_index (index.By i s) index.Absent = false
same_index (index.By i s) (index.By j t) = (i == j) && (s == t)

-- equal addresses with equal displacements
abbrev pub same_memory : Address → Option ℕ → Address → Option ℕ → Bool
same_memory m d n e = (segment_number m.segment == segment_number n.segment) && (same_base m.base n.base && (same_index m.index n.index && same_value d e))

-- equal registers
abbrev pub same_reg : Reg → Reg → Bool
same_reg r s = (class_number r.class == class_number s.class) && (r.number == s.number)

-- equal operands
abbrev pub same_operand : Seen → Seen → Bool
same_operand absent absent = true
same_operand (register r) (register s) = same_reg r s
same_operand (shown_immediate v) (shown_immediate w) = same_value v w
same_operand (memory m d) (memory n e) = same_memory m d n e
same_operand (target v) (target w) = same_value v w
same_operand a b = false

-- the row shows the instruction of these fields
unfoldable pub shows : Row → Fields → View → Bool
shows r p insn = (insn.name.0 == r.name.0) && ((insn.size == r.size)
    && (same_operand (normal r.immediate r.first insn.first) (shown (has_rex r p) (length (bytes_of r p)) p r.first)
    && (same_operand (normal r.immediate r.second insn.second) (shown (has_rex r p) (length (bytes_of r p)) p r.second)
    && same_operand (normal r.immediate r.third insn.third) (shown (has_rex r p) (length (bytes_of r p)) p r.third))))

-- the row takes the instruction
unfoldable pub takes : Row → View → Bool
takes r insn = fits r (built r insn) && shows r (built r insn) insn

-- A ROW NAMES ALL THAT IT HAS

-- an operand has the role
abbrev pub has : (Pattern → Bool) → Row → Bool
has f r = f r.first || (f r.second || f r.third)

-- a register stands in the opcode
abbrev pub has_low : Shape → Bool
has_low shape.Plain = false
has_low shape.Low = true
has_low shape.LowNotFirst = true
has_low (shape.Fixed b) = false
has_low (shape.Digit d m) = false
has_low (shape.Slash m) = false

-- a register stands in ModRM.reg
abbrev pub has_reg : Shape → Bool
has_reg shape.Plain = false
has_reg shape.Low = false
has_reg shape.LowNotFirst = false
has_reg (shape.Fixed b) = false
has_reg (shape.Digit d m) = false
has_reg (shape.Slash m) = true

-- an operand stands in ModRM.rm
abbrev pub has_rm : Shape → Bool
has_rm shape.Plain = false
has_rm shape.Low = false
has_rm shape.LowNotFirst = false
has_rm (shape.Fixed b) = false
has_rm (shape.Digit d m) = true
has_rm (shape.Slash m) = true

-- an immediate or a distance stands
abbrev pub has_held : Immediate → Bool
has_held immediate.Absent = false
has_held immediate.Byte = true
has_held immediate.Count = true
has_held immediate.Sext16 = true
has_held immediate.Sext32 = true
has_held immediate.Sext64 = true
has_held immediate.Word = true
has_held immediate.Long = true
has_held immediate.LongSext = true
has_held immediate.Quad = true
has_held immediate.Rel8 = true
has_held immediate.Short = true
has_held immediate.Rel32 = true

-- each field of the row is some operand's
abbrev pub is_shaped : Row → Bool
is_shaped r = (not (has_low r.shape) || has is_low r) && ((not (has_reg r.shape) || has is_reg r)
    && ((not (has_rm r.shape) || has is_rm r) && (not (has_held r.immediate) || has is_held r)))

-- so are those of all rows
abbrev pub all_shaped : List Row → Bool
all_shaped [] = true
all_shaped (r ∷ rows) = is_shaped r && all_shaped rows
