-- The bytes of an instruction, by its row and its fields (Intel SDM, volume 2, section 2.1).
use Rattle.std.specs.Prelude.{◌+◌, ◌*◌, ◌/◌, ◌%◌, ◌^◌, ◌||◌, ◌∷◌, ◌++◌, [], ℕ, nat_lt, List, Bool, true, false, Option, Some, None, if◌then◌else◌}
use Rattle.std.specs.Int.{to_le_bytes, w16, w32, w64}
use Rattle.x86_insn.specs.declared.insns.Prefix.{Prefix}
use Rattle.x86_insn.specs.declared.insns.Prefix.TheVariants as prefix
use Rattle.x86_insn.specs.declared.insns.Segment.{Segment}
use Rattle.x86_insn.specs.declared.insns.Segment.TheVariants as segment
use Rattle.x86_insn.specs.declared.insns.Index.{Index}
use Rattle.x86_insn.specs.declared.insns.Index.TheVariants as index
use Rattle.x86_table.specs.declared.forms.Repeat.{Repeat}
use Rattle.x86_table.specs.declared.forms.Repeat.TheVariants as repeat
use Rattle.x86_table.specs.declared.forms.Map.{Map}
use Rattle.x86_table.specs.declared.forms.Map.TheVariants as map
use Rattle.x86_table.specs.declared.forms.Shape.{Shape}
use Rattle.x86_table.specs.declared.forms.Shape.TheVariants as shape
use Rattle.x86_table.specs.declared.forms.Immediate.{Immediate}
use Rattle.x86_table.specs.declared.forms.Immediate.TheVariants as immediate
use Rattle.x86_table.specs.declared.forms.Row.{Row}
use Rattle.x86_table.specs.declared.parts.Width.{Width}
use Rattle.x86_table.specs.declared.parts.Width.TheVariants as width
use Rattle.x86_table.specs.Fields.{Location, Fields, nowhere, direct, from_rip, bare, based}

-- a byte that may stand
abbrev pub opt : Option ℕ → List ℕ
opt None = []
opt (Some b) = b ∷ []

-- 3E, the prefix of `notrack`
abbrev pub notrack_byte : Prefix → Option ℕ
notrack_byte prefix.Notrack = Some 62
notrack_byte prefix.Absent = None
notrack_byte prefix.Lock = None
notrack_byte prefix.Rep = None
notrack_byte prefix.Repe = None
notrack_byte prefix.Repne = None

-- 64 for fs, 65 for gs, 3E for notrack
abbrev pub first_byte : Option Segment → Prefix → Option ℕ
first_byte (Some segment.Fs) p = Some 100
first_byte (Some segment.Gs) p = Some 101
first_byte None p = notrack_byte p

-- 66, the operand-size prefix
abbrev pub size_byte : Bool → Option ℕ
size_byte true = Some 102
size_byte false = None

-- F3 or F2 of a repeat prefix
abbrev pub word_byte : Prefix → Option ℕ
word_byte prefix.Rep = Some 243
word_byte prefix.Repe = Some 243
word_byte prefix.Repne = Some 242
word_byte prefix.Absent = None
word_byte prefix.Lock = None
word_byte prefix.Notrack = None

-- the row's own F2 or F3, or that of a repeat prefix
abbrev pub repeat_byte : Repeat → Prefix → Option ℕ
repeat_byte repeat.F2 p = Some 242
repeat_byte repeat.F3 p = Some 243
repeat_byte repeat.Absent p = word_byte p

-- F0, the prefix of `lock`
abbrev pub lock_byte : Prefix → Option ℕ
lock_byte prefix.Lock = Some 240
lock_byte prefix.Absent = None
lock_byte prefix.Rep = None
lock_byte prefix.Repe = None
lock_byte prefix.Repne = None
lock_byte prefix.Notrack = None

-- a bit as a number
abbrev pub bit : Bool → ℕ
bit true = 1
bit false = 0

-- REX.X of an index
abbrev pub index_high : Index → ℕ
index_high index.Absent = 0
index_high (index.By i s) = i / 8

-- REX.X of a place
abbrev pub place_x : Location → ℕ
place_x nowhere = 0
place_x (direct n) = 0
place_x (from_rip d) = 0
place_x (bare i d) = index_high i
place_x (based b i s w d) = index_high i

-- REX.B of a place
abbrev pub place_b : Location → ℕ
place_b nowhere = 0
place_b (direct n) = n / 8
place_b (from_rip d) = 0
place_b (bare i d) = 0
place_b (based b i s w d) = b / 8

-- the bits of REX, as 0000WRXB
unfoldable pub rex_bits : Row → Fields → ℕ
rex_bits r p = 8 * bit r.lead.wide + 4 * (p.reg / 8) + 2 * place_x p.place + (place_b p.place + p.low / 8)

-- REX stands where one of its bits is 1, or where it has to stand without them
unfoldable pub rex_byte : ℕ → Bool → Option ℕ
rex_byte bits alone = if nat_lt 0 bits || alone then Some (64 + bits) else None

-- REX stands
abbrev pub has_rex : Row → Fields → Bool
has_rex r p = nat_lt 0 (rex_bits r p) || p.bare_rex

-- 0F before an opcode of the other maps
abbrev pub escape_byte : Map → Option ℕ
escape_byte map.One = None
escape_byte map.Two = Some 15
escape_byte map.Three38 = Some 15
escape_byte map.Three3A = Some 15

-- 38 or 3A behind it
abbrev pub second_escape : Map → Option ℕ
second_escape map.One = None
second_escape map.Two = None
second_escape map.Three38 = Some 56
second_escape map.Three3A = Some 58

-- a number that is not known now stands as 0
abbrev pub number_or_zero : Option ℕ → ℕ
number_or_zero None = 0
number_or_zero (Some v) = v

-- the low 32 bits, little-endian
abbrev pub long : Option ℕ → List ℕ
long v = to_le_bytes w32 (number_or_zero v % 2 ^ 32)

-- a displacement of this width
abbrev pub displacement_bytes : Width → Option ℕ → List ℕ
displacement_bytes width.Absent v = []
displacement_bytes width.Byte v = (number_or_zero v % 256) ∷ []
displacement_bytes width.Long v = long v

-- ModRM.mod of a displacement of this width
abbrev pub mode : Width → ℕ
mode width.Absent = 0
mode width.Byte = 1
mode width.Long = 2

-- SIB: scale, index and base; index 100 is none
abbrev pub sib : Index → ℕ → ℕ
sib index.Absent low = 32 + low
sib (index.By i s) low = 64 * s + 8 * (i % 8) + low

-- ModRM.mod
abbrev pub mod_of : Location → ℕ
mod_of nowhere = 0
mod_of (direct n) = 3
mod_of (from_rip d) = 0
mod_of (bare i d) = 0
mod_of (based b i s w d) = mode w

-- ModRM.rm of a base: 100 where a SIB byte stands
abbrev pub based_rm : Bool → ℕ → ℕ
based_rm true b = 4
based_rm false b = b % 8

-- ModRM.rm
abbrev pub rm_of : Location → ℕ
rm_of nowhere = 0
rm_of (direct n) = n % 8
rm_of (from_rip d) = 5
rm_of (bare i d) = 4
rm_of (based b i s w d) = based_rm s b

-- the SIB byte of a base, where it stands
abbrev pub based_sib : Bool → Index → ℕ → List ℕ
based_sib true i b = sib i (b % 8) ∷ []
based_sib false i b = []

-- the SIB byte; base 101 with mod 00 is none
abbrev pub sib_bytes : Location → List ℕ
sib_bytes nowhere = []
sib_bytes (direct n) = []
sib_bytes (from_rip d) = []
sib_bytes (bare i d) = sib i 5 ∷ []
sib_bytes (based b i s w d) = based_sib s i b

-- the displacement
abbrev pub place_displacement : Location → List ℕ
place_displacement nowhere = []
place_displacement (direct n) = []
place_displacement (from_rip d) = long d
place_displacement (bare i d) = long d
place_displacement (based b i s w d) = displacement_bytes w d

-- ModRM with this reg, SIB and displacement
abbrev pub place_bytes : ℕ → Location → List ℕ
place_bytes reg p = (64 * mod_of p + 8 * reg + rm_of p) ∷ (sib_bytes p ++ place_displacement p)

-- what follows the opcode in a row of this shape
abbrev pub modrm_bytes : Shape → ℕ → Location → List ℕ
modrm_bytes shape.Plain reg p = []
modrm_bytes shape.Low reg p = []
modrm_bytes shape.LowNotFirst reg p = []
modrm_bytes (shape.Fixed b) reg p = b ∷ []
modrm_bytes (shape.Digit d m) reg p = place_bytes reg p
modrm_bytes (shape.Slash m) reg p = place_bytes reg p

-- the immediate of a row
abbrev pub immediate_bytes : Immediate → Option ℕ → List ℕ
immediate_bytes immediate.Absent v = []
immediate_bytes immediate.Byte v = (number_or_zero v % 256) ∷ []
immediate_bytes immediate.Count v = (number_or_zero v % 256) ∷ []
immediate_bytes immediate.Sext16 v = (number_or_zero v % 256) ∷ []
immediate_bytes immediate.Sext32 v = (number_or_zero v % 256) ∷ []
immediate_bytes immediate.Sext64 v = (number_or_zero v % 256) ∷ []
immediate_bytes immediate.Word v = to_le_bytes w16 (number_or_zero v % 2 ^ 16)
immediate_bytes immediate.Long v = long v
immediate_bytes immediate.LongSext v = long v
immediate_bytes immediate.Quad v = to_le_bytes w64 (number_or_zero v)
immediate_bytes immediate.Rel8 v = (number_or_zero v % 256) ∷ []
immediate_bytes immediate.Short v = (number_or_zero v % 256) ∷ []
immediate_bytes immediate.Rel32 v = long v

-- the bytes of an instruction: prefixes, REX, opcode, ModRM, SIB, displacement, immediate
unfoldable pub bytes_of : Row → Fields → List ℕ
bytes_of r p = opt (first_byte p.segment p.«prefix») ++ (opt (size_byte r.lead.operand_size) ++ (opt (repeat_byte r.lead.repeat p.«prefix») ++ (opt (lock_byte p.«prefix»)
    ++ (opt (rex_byte (rex_bits r p) p.bare_rex) ++ (opt (escape_byte r.map) ++ (opt (second_escape r.map)
    ++ (r.code + p.low % 8) ∷ (modrm_bytes r.shape (p.reg % 8) p.place ++ immediate_bytes r.immediate p.held)))))))
