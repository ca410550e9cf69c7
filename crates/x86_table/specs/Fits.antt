-- Which fields a row admits (Intel SDM, volume 2, sections 2.1 and 2.2.1).
use Rattle.std.specs.Prelude.{◌≡◌, ◌<◌, ◌+◌, ◌-◌, ◌%◌, ◌^◌, ◌==◌, ◌&&◌, ◌||◌, ℕ, nat_lt, nat_le, Bool, true, false, not, Option, Some, None, slice_get, length}
use Rattle.x86_insn.specs.declared.registers.Class.{Class}
use Rattle.x86_insn.specs.declared.registers.Class.TheVariants as class
use Rattle.x86_insn.specs.declared.insns.Prefix.{Prefix}
use Rattle.x86_insn.specs.declared.insns.Prefix.TheVariants as prefix
use Rattle.x86_insn.specs.declared.insns.Segment.{Segment}
use Rattle.x86_insn.specs.declared.insns.Index.{Index}
use Rattle.x86_insn.specs.declared.insns.Index.TheVariants as index
use Rattle.x86_table.specs.declared.forms.Repeat.{Repeat}
use Rattle.x86_table.specs.declared.forms.Repeat.TheVariants as repeat
use Rattle.x86_table.specs.declared.forms.Rm.{Rm}
use Rattle.x86_table.specs.declared.forms.Rm.TheVariants as rm
use Rattle.x86_table.specs.declared.forms.Shape.{Shape}
use Rattle.x86_table.specs.declared.forms.Shape.TheVariants as shape
use Rattle.x86_table.specs.declared.forms.Pattern.{Pattern}
use Rattle.x86_table.specs.declared.forms.Pattern.TheVariants as pattern
use Rattle.x86_table.specs.declared.forms.Immediate.{Immediate}
use Rattle.x86_table.specs.declared.forms.Immediate.TheVariants as immediate
use Rattle.x86_table.specs.declared.forms.Words.{Words}
use Rattle.x86_table.specs.declared.forms.Words.TheVariants as words
use Rattle.x86_table.specs.declared.forms.Row.{Row}
use Rattle.x86_table.specs.declared.parts.Width.{Width}
use Rattle.x86_table.specs.declared.parts.Width.TheVariants as width
use Rattle.x86_table.specs.Rows.{the_rows}
use Rattle.x86_table.specs.Fields.{Location, Fields, nowhere, direct, from_rip, bare, based}
use Rattle.x86_table.specs.Bytes.{rex_bits, bytes_of}

-- a number below 2 ^ n that is sign-extended from k bits
abbrev pub is_signed : ℕ → ℕ → ℕ → Bool
is_signed k n v = nat_lt v (2 ^ (k - 1)) || nat_le (2 ^ n - 2 ^ (k - 1)) v && nat_lt v (2 ^ n)

-- 32 bits, sign-extended to 64; a number that is not known now stands there too
abbrev pub long_fits : Option ℕ → Bool
long_fits None = true
long_fits (Some v) = is_signed 32 64 v

-- a displacement of this width; one that is not known now has 32 bits
abbrev pub displacement_fits : Width → Option ℕ → Bool
displacement_fits width.Absent None = false
displacement_fits width.Absent (Some v) = v == 0
displacement_fits width.Byte None = false
displacement_fits width.Byte (Some v) = is_signed 8 64 v
displacement_fits width.Long d = long_fits d

-- an index is not rsp
abbrev pub index_fits : Index → Bool
index_fits index.Absent = true
index_fits (index.By i s) = nat_lt i 16 && (not (i == 4) && nat_lt s 4)

-- without SIB there is no index, and the base is not 100
abbrev pub sib_fits : Bool → Index → ℕ → Bool
sib_fits true i b = true
sib_fits false index.Absent b = not (b % 8 == 4)
sib_fits false (index.By i s) b = false

-- without a displacement the base is not 101
abbrev pub mode_fits : Width → ℕ → Bool
mode_fits width.Absent b = not (b % 8 == 5)
mode_fits width.Byte b = true
mode_fits width.Long b = true

-- what ModRM and SIB can name
abbrev pub some_place_fits : Location → Bool
some_place_fits nowhere = false
some_place_fits (direct n) = nat_lt n 16
some_place_fits (from_rip d) = long_fits d
some_place_fits (bare i d) = index_fits i && long_fits d
some_place_fits (based b i s w d) = nat_lt b 16 && (index_fits i && (sib_fits s i b && (mode_fits w b && displacement_fits w d)))

-- the place is in memory
abbrev pub is_memory : Location → Bool
is_memory nowhere = false
is_memory (direct n) = false
is_memory (from_rip d) = true
is_memory (bare i d) = true
is_memory (based b i s w d) = true

-- ModRM.rm may name it
abbrev pub rm_fits : Rm → Location → Bool
rm_fits rm.Any p = true
rm_fits rm.Memory p = is_memory p
rm_fits rm.Register p = not (is_memory p)

-- there is no place
abbrev pub is_nowhere : Location → Bool
is_nowhere nowhere = true
is_nowhere (direct n) = false
is_nowhere (from_rip d) = false
is_nowhere (bare i d) = false
is_nowhere (based b i s w d) = false

-- a place stands exactly where there is a ModRM byte for it
abbrev pub place_fits : Shape → Location → Bool
place_fits shape.Plain p = is_nowhere p
place_fits shape.Low p = is_nowhere p
place_fits shape.LowNotFirst p = is_nowhere p
place_fits (shape.Fixed b) p = is_nowhere p
place_fits (shape.Digit d m) p = some_place_fits p && rm_fits m p
place_fits (shape.Slash m) p = some_place_fits p && rm_fits m p

-- ModRM.reg is the digit, or a register
abbrev pub reg_fits : Shape → ℕ → Bool
reg_fits shape.Plain reg = reg == 0
reg_fits shape.Low reg = reg == 0
reg_fits shape.LowNotFirst reg = reg == 0
reg_fits (shape.Fixed b) reg = reg == 0
reg_fits (shape.Digit d m) reg = reg == d && nat_lt d 8
reg_fits (shape.Slash m) reg = nat_lt reg 16

-- a register in the opcode
abbrev pub low_fits : Shape → ℕ → Bool
low_fits shape.Plain low = low == 0
low_fits shape.Low low = nat_lt low 16
low_fits shape.LowNotFirst low = nat_lt low 16 && not (low == 0)
low_fits (shape.Fixed b) low = low == 0
low_fits (shape.Digit d m) low = low == 0
low_fits (shape.Slash m) low = low == 0

-- a number that is not known now stands in a full field alone
abbrev pub immediate_fits : Immediate → Option ℕ → Bool
immediate_fits immediate.Absent None = false
immediate_fits immediate.Absent (Some v) = v == 0
immediate_fits immediate.Byte None = true
immediate_fits immediate.Byte (Some v) = nat_lt v 256
immediate_fits immediate.Count None = false
immediate_fits immediate.Count (Some v) = nat_lt v 256
immediate_fits immediate.Sext16 None = false
immediate_fits immediate.Sext16 (Some v) = is_signed 8 16 v
immediate_fits immediate.Sext32 None = false
immediate_fits immediate.Sext32 (Some v) = is_signed 8 32 v
immediate_fits immediate.Sext64 None = false
immediate_fits immediate.Sext64 (Some v) = is_signed 8 64 v
immediate_fits immediate.Word None = true
immediate_fits immediate.Word (Some v) = nat_lt v (2 ^ 16)
immediate_fits immediate.Long None = true
immediate_fits immediate.Long (Some v) = nat_lt v (2 ^ 32)
immediate_fits immediate.LongSext None = true
immediate_fits immediate.LongSext (Some v) = is_signed 32 64 v
immediate_fits immediate.Quad None = true
immediate_fits immediate.Quad (Some v) = nat_lt v (2 ^ 64)
immediate_fits immediate.Rel8 None = true
immediate_fits immediate.Rel8 (Some v) = is_signed 8 64 v
immediate_fits immediate.Short None = false
immediate_fits immediate.Short (Some v) = is_signed 8 64 v
immediate_fits immediate.Rel32 None = true
immediate_fits immediate.Rel32 (Some v) = is_signed 32 64 v

-- al to dil and r8b to r15b
abbrev pub is_byte : Class → Bool
is_byte class.Byte = true
is_byte class.High = false
is_byte class.Word = false
is_byte class.Long = false
is_byte class.Quad = false
is_byte class.Xmm = false

-- 4 to 7: spl, bpl, sil and dil with REX, ah, ch, dh and bh without
abbrev pub is_middle : ℕ → Bool
is_middle n = nat_le 4 n && nat_lt n 8

-- the place is a register of such a number
abbrev pub is_middle_place : Location → Bool
is_middle_place nowhere = false
is_middle_place (direct n) = is_middle n
is_middle_place (from_rip d) = false
is_middle_place (bare i d) = false
is_middle_place (based b i s w d) = false

-- REX makes spl, bpl, sil or dil of the operand
abbrev pub wants_rex : Fields → Pattern → Bool
wants_rex p pattern.Absent = false
wants_rex p (pattern.RegMem c n) = is_byte c && is_middle_place p.place
wants_rex p (pattern.Reg c) = is_byte c && is_middle p.reg
wants_rex p (pattern.Low c) = is_byte c && is_middle p.low
wants_rex p (pattern.Accumulator c) = false
wants_rex p pattern.Cl = false
wants_rex p pattern.One = false
wants_rex p pattern.Immediate = false
wants_rex p pattern.Target = false

-- REX without any of its bits stands only where it makes one of these
abbrev pub rex_fits : Row → Fields → Bool
rex_fits r p = not p.bare_rex || ((rex_bits r p == 0) && (wants_rex p r.first || (wants_rex p r.second || wants_rex p r.third)))

-- there is no segment
abbrev pub is_no_segment : Option Segment → Bool
is_no_segment None = true
is_no_segment (Some s) = false

-- a segment stands with memory alone
abbrev pub segment_fits : Option Segment → Location → Bool
segment_fits None p = true
segment_fits (Some s) p = is_memory p

-- the row has no F2 or F3 of its own
abbrev pub takes_none : Repeat → Bool
takes_none repeat.Absent = true
takes_none repeat.F2 = false
takes_none repeat.F3 = false

-- `rep` may stand
abbrev pub may_rep : Words → Bool
may_rep words.Absent = false
may_rep words.Lock = false
may_rep words.Rep = true
may_rep words.Repe = false
may_rep words.Notrack = false

-- `repe` may stand
abbrev pub may_repe : Words → Bool
may_repe words.Absent = false
may_repe words.Lock = false
may_repe words.Rep = false
may_repe words.Repe = true
may_repe words.Notrack = false

-- `repne` may stand
abbrev pub may_repne : Words → Bool
may_repne words.Absent = false
may_repne words.Lock = false
may_repne words.Rep = false
may_repne words.Repe = true
may_repne words.Notrack = false

-- `lock` may stand
abbrev pub may_lock : Words → Bool
may_lock words.Absent = false
may_lock words.Lock = true
may_lock words.Rep = false
may_lock words.Repe = false
may_lock words.Notrack = false

-- `notrack` may stand
abbrev pub may_notrack : Words → Bool
may_notrack words.Absent = false
may_notrack words.Lock = false
may_notrack words.Rep = false
may_notrack words.Repe = false
may_notrack words.Notrack = true

-- a prefix word stands only before rows that take it; `lock` wants memory
abbrev pub prefix_fits : Repeat → Words → Prefix → Option Segment → Location → Bool
prefix_fits e a prefix.Absent s p = true
prefix_fits e a prefix.Lock s p = may_lock a && is_memory p
prefix_fits e a prefix.Rep s p = may_rep a && takes_none e
prefix_fits e a prefix.Repe s p = may_repe a && takes_none e
prefix_fits e a prefix.Repne s p = may_repne a && takes_none e
prefix_fits e a prefix.Notrack s p = may_notrack a && is_no_segment s

-- each field is one that the row gives a meaning
unfoldable pub fields_fit : Row → Fields → Bool
fields_fit r p = prefix_fits r.lead.repeat r.words p.«prefix» p.segment p.place && (segment_fits p.segment p.place && (reg_fits r.shape p.reg && (low_fits r.shape p.low
    && (place_fits r.shape p.place && (immediate_fits r.immediate p.held && rex_fits r p)))))

-- the fields fit the row, and the instruction has 15 bytes at most (Intel SDM, volume 2, section 2.3.11)
unfoldable pub fits : Row → Fields → Bool
fits r p = fields_fit r p && nat_le (length (bytes_of r p)) 15

-- the scale of an index
abbrev pub scale_of : Index → ℕ
scale_of index.Absent = 0
scale_of (index.By i s) = s

-- the scale of a place
abbrev pub place_scale : Location → ℕ
place_scale nowhere = 0
place_scale (direct n) = 0
place_scale (from_rip d) = 0
place_scale (bare i d) = scale_of i
place_scale (based b i s w d) = scale_of i

-- each of the bytes is one
pub record AreBytes (r : Row) (p : Fields) : Type 0 where
  pub bits : rex_bits r p < 16
  pub code : r.code + p.low % 8 < 256
  pub scale : place_scale p.place < 4

-- fields that fit a row of the table have bytes
abbrev pub FieldsHaveBytes : Type 0
FieldsHaveBytes = (i : ℕ) (r : Row) (p : Fields) → slice_get the_rows i ≡ Some r → fields_fit r p ≡ true → AreBytes r p
