-- What a row admits, by a key, how many bytes it has at least, and what is found.
use Rattle.std.specs.Prelude.{◌≡◌, ◌<◌, ◌+◌, ◌==◌, ◌&&◌, Bool, List, None, Option, Some, false, length, nat_le, slice_get, true, ℕ}
use Rattle.x86_insn.specs.declared.registers.Class.{Class}
use Rattle.x86_insn.specs.declared.insns.Prefix.{Prefix}
use Rattle.x86_table.specs.declared.forms.Row.{Row}
use Rattle.x86_table.specs.declared.forms.Immediate.{Immediate}
use Rattle.x86_table.specs.declared.forms.Shape.{Shape}
use Rattle.x86_table.specs.declared.forms.Pattern.{Pattern}
use Rattle.x86_table.specs.declared.forms.Words.{Words}
use Rattle.x86_table.specs.declared.parts.Width.{Width}
use Rattle.x86_lookup.specs.declared.row_keys.Key.{Key}
use Rattle.x86_parts.specs.declared.keying.Sorts.{Sorts}
use Rattle.x86_parts.specs.declared.found.Found.{Found}
use Rattle.x86_table.specs.declared.forms.Immediate.TheVariants as immediate
use Rattle.x86_table.specs.declared.forms.Pattern.TheVariants as pattern
use Rattle.x86_insn.specs.declared.insns.Prefix.TheVariants as prefix
use Rattle.x86_table.specs.declared.forms.Shape.TheVariants as shape
use Rattle.x86_table.specs.declared.parts.Width.TheVariants as width
use Rattle.x86_table.specs.declared.forms.Words.TheVariants as words
use Rattle.x86_insn.specs.Views.{Seen, absent, register, immediate as shown_immediate, memory, target, View}
use Rattle.x86_table.specs.Bytes.{first_byte, size_byte, repeat_byte, lock_byte, bit, rex_bits, rex_byte, escape_byte, second_escape, bytes_of}
use Rattle.x86_table.specs.Fields.{Location, nowhere, direct, from_rip, bare, based, Fields, fields_of}
use Rattle.x86_table.specs.Rows.{the_rows}
use Rattle.x86_lookup.specs.Keys.{either, register_sort, register_sorts, first_sort, has_bit}
use Rattle.x86_parts.specs.Building.{built, takes}
use Rattle.x86_parts.specs.Codes.{OrderedCodes, Before, HasNoOrderedCode}

-- THE SORT OF AN OPERAND, BELOW 16

-- the sort of an immediate
abbrev pub immediate_sort : Option ℕ → ℕ
immediate_sort None = 13
immediate_sort (Some v) = either (v == 1) false 15 13 13

-- the sort of an operand
abbrev pub sort : Seen → ℕ
sort absent = 0
sort (register r) = register_sort r.class r.number
sort (shown_immediate v) = immediate_sort v
sort (memory a d) = 12
sort (target v) = 14

-- THE SORTS THAT A PATTERN SHOWS, A BIT EACH

-- what ModRM.rm may name, by the shape of the row
abbrev pub place_sorts : Shape → Class → ℕ
place_sorts shape.Plain c = 1
place_sorts shape.Low c = 1
place_sorts shape.LowNotFirst c = 1
place_sorts (shape.Fixed b) c = 1
place_sorts (shape.Digit d m) c = 4096 + register_sorts c
place_sorts (shape.Slash m) c = 4096 + register_sorts c

-- the sorts of a pattern
abbrev pub sorts : Shape → Pattern → ℕ
sorts m pattern.Absent = 1
sorts m (pattern.RegMem c n) = place_sorts m c
sorts m (pattern.Reg c) = register_sorts c
sorts m (pattern.Low c) = register_sorts c
sorts m (pattern.Accumulator c) = first_sort c
sorts m pattern.Cl = 256
sorts m pattern.One = 32768
sorts m pattern.Immediate = 40960
sorts m pattern.Target = 16384

-- the prefix words of a row, a bit each
abbrev pub words_of : Words → ℕ
words_of words.Absent = 0
words_of words.Lock = 1
words_of words.Rep = 2
words_of words.Repe = 4
words_of words.Notrack = 8

-- HOW MANY BYTES FIELDS HAVE

-- a byte that may stand
abbrev pub count : Option ℕ → ℕ
count None = 0
count (Some b) = 1

-- a displacement
abbrev pub width_length : Width → ℕ
width_length width.Absent = 0
width_length width.Byte = 1
width_length width.Long = 4

-- ModRM with SIB
abbrev pub sib_length : Bool → ℕ
sib_length true = 2
sib_length false = 1

-- ModRM, SIB and displacement
abbrev pub place_length : Location → ℕ
place_length nowhere = 1
place_length (direct n) = 1
place_length (from_rip d) = 5
place_length (bare i d) = 6
place_length (based b i s w d) = sib_length s + width_length w

-- what follows the opcode
abbrev pub modrm_length : Shape → Location → ℕ
modrm_length shape.Plain p = 0
modrm_length shape.Low p = 0
modrm_length shape.LowNotFirst p = 0
modrm_length (shape.Fixed b) p = 1
modrm_length (shape.Digit d m) p = place_length p
modrm_length (shape.Slash m) p = place_length p

-- the immediate
abbrev pub immediate_length : Immediate → ℕ
immediate_length immediate.Absent = 0
immediate_length immediate.Byte = 1
immediate_length immediate.Count = 1
immediate_length immediate.Sext16 = 1
immediate_length immediate.Sext32 = 1
immediate_length immediate.Sext64 = 1
immediate_length immediate.Word = 2
immediate_length immediate.Long = 4
immediate_length immediate.LongSext = 4
immediate_length immediate.Quad = 8
immediate_length immediate.Rel8 = 1
immediate_length immediate.Short = 1
immediate_length immediate.Rel32 = 4

-- what the row gives in any case
abbrev pub row_length : Row → ℕ
row_length r = count (size_byte r.lead.operand_size) + (count (escape_byte r.map) + (count (second_escape r.map) + (1 + immediate_length r.immediate)))

-- all bytes
unfoldable pub length_by : Row → Fields → ℕ
length_by r p = row_length r + (count (first_byte p.segment p.«prefix») + (count (repeat_byte r.lead.repeat p.«prefix») + (count (lock_byte p.«prefix»)
    + (count (rex_byte (rex_bits r p) p.bare_rex) + modrm_length r.shape p.place))))

-- the least bytes of ModRM
abbrev pub modrm_least : Shape → ℕ
modrm_least shape.Plain = 0
modrm_least shape.Low = 0
modrm_least shape.LowNotFirst = 0
modrm_least (shape.Fixed b) = 1
modrm_least (shape.Digit d m) = 1
modrm_least (shape.Slash m) = 1

-- no bytes by the row are fewer
abbrev pub least_length : Row → ℕ
least_length r = row_length r + (bit r.lead.wide + modrm_least r.shape)

-- the key of a row
abbrev pub key_of : Row → Key
key_of r = record { size = r.size; words = words_of r.words; least_length = least_length r; first = sorts r.shape r.first; second = sorts r.shape r.second; third = sorts r.shape r.third }

-- WHETHER A KEY ADMITS AN INSTRUCTION

-- the prefix word is among these
abbrev pub has_word : ℕ → Prefix → Bool
has_word k prefix.Absent = true
has_word k prefix.Lock = has_bit k 0
has_word k prefix.Rep = has_bit k 1
has_word k prefix.Repe = has_bit k 2
has_word k prefix.Repne = has_bit k 2
has_word k prefix.Notrack = has_bit k 3

-- the key admits the instruction
unfoldable pub admits : Key → View → Bool
admits k insn = (insn.size == k.size) && (has_bit k.first (sort insn.first) && (has_bit k.second (sort insn.second) && (has_bit k.third (sort insn.third) && has_word k.words insn.«prefix»)))

-- the sorts of an instruction's operands
pub record AreSorts (s : Sorts) (n : View) : Type 0 where
  pub first : s.first ≡ sort n.first
  pub second : s.second ≡ sort n.second
  pub third : s.third ≡ sort n.third
  pub first_small : s.first < 16
  pub second_small : s.second < 16
  pub third_small : s.third < 16

-- WHAT IS FOUND

-- what was found is no longer than this
abbrev pub is_reached : Option Found → ℕ → Bool
is_reached None n = false
is_reached (Some x) n = nat_le x.length n

-- the row of what is found takes the instruction, and no row before n gives it bytes that come before
pub record BestSofar (n : ℕ) (insn : View) (x : Found) : Type 0 where
  pub r : Row
  pub below : x.row < n
  pub found : slice_get the_rows x.row ≡ Some r
  pub taken : takes r insn ≡ true
  pub parts_are : fields_of x.parts ≡ built r insn
  pub length_is : x.length ≡ length (bytes_of r (built r insn))
  pub least : (other : List ℕ) (j : ℕ) → j < n → OrderedCodes other insn j → Before (bytes_of r (built r insn)) x.row other j

-- what is found of the rows before n
abbrev pub Sofar : ℕ → View → Option Found → Type 0
Sofar n insn None = (bytes : List ℕ) (j : ℕ) → j < n → OrderedCodes bytes insn j → ⊥
Sofar n insn (Some x) = BestSofar n insn x

-- what is found after the row at the index
abbrev pub Steps : View → Row → ℕ → Option Found → Option Found → Type 0
Steps insn r i found new = slice_get the_rows i ≡ Some r → Sofar i insn found → Sofar (i + 1) insn new

-- the row of what is found takes the instruction, and no row gives it bytes that come before
pub record Best (insn : View) (x : Found) : Type 0 where
  pub r : Row
  pub found : slice_get the_rows x.row ≡ Some r
  pub taken : takes r insn ≡ true
  pub parts_are : fields_of x.parts ≡ built r insn
  pub length_is : x.length ≡ length (bytes_of r (built r insn))
  pub least : (other : List ℕ) (j : ℕ) → OrderedCodes other insn j → Before (bytes_of r (built r insn)) x.row other j

-- what is found is the best, or there is none
abbrev pub Finds : View → Option Found → Type 0
Finds insn None = HasNoOrderedCode insn
Finds insn (Some x) = Best insn x
