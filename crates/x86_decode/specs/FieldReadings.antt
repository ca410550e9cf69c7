-- The fields that a row would have in bytes with this head.
use Rattle.std.specs.Prelude.{◌+◌, ◌-◌, ◌*◌, ◌/◌, ◌%◌, ◌==◌, ◌∷◌, [], ℕ, List, Bool, false, Option, Some, None, if◌then◌else◌}
use Rattle.x86_insn.specs.declared.insns.Prefix.{Prefix}
use Rattle.x86_insn.specs.declared.insns.Prefix.TheVariants as prefix
use Rattle.x86_insn.specs.declared.insns.Segment.{Segment}
use Rattle.x86_insn.specs.declared.insns.Segment.TheVariants as segment
use Rattle.x86_table.specs.declared.forms.Repeat.{Repeat}
use Rattle.x86_table.specs.declared.forms.Repeat.TheVariants as repeat
use Rattle.x86_table.specs.declared.forms.Words.{Words}
use Rattle.x86_table.specs.declared.forms.Words.TheVariants as words
use Rattle.x86_table.specs.declared.forms.Shape.{Shape}
use Rattle.x86_table.specs.declared.forms.Shape.TheVariants as shape
use Rattle.x86_table.specs.declared.forms.Row.{Row}
use Rattle.x86_table.specs.Fields.{Location, Fields, nowhere}
use Rattle.x86_decode.specs.Heads.{Head, tail_of}
use Rattle.x86_decode.specs.Places.{Placed, place_in}
use Rattle.x86_decode.specs.Immediates.{immediate_in}

-- the bits of REX
abbrev pub rex_value : Option ℕ → ℕ
rex_value None = 0
rex_value (Some b) = b % 16

-- REX stands without bits
abbrev pub is_bare : Option ℕ → Bool
is_bare None = false
is_bare (Some b) = b == 64

-- the segment of the first byte
abbrev pub segment_in : Option ℕ → Option Segment
segment_in None = None
segment_in (Some b) = if b == 100 then Some segment.Fs else (if b == 101 then Some segment.Gs else None)

-- the word that F3 is before rows that take this
abbrev pub repeated : Words → Prefix
repeated words.Rep = prefix.Rep
repeated words.Absent = prefix.Repe
repeated words.Lock = prefix.Repe
repeated words.Repe = prefix.Repe
repeated words.Notrack = prefix.Repe

-- the word of a repeat byte before a row without one of its own
abbrev pub word_in : Words → Option ℕ → Prefix
word_in a None = prefix.Absent
word_in a (Some b) = if b == 243 then repeated a else prefix.Repne

-- the word of a repeat byte
abbrev pub repeat_word : Repeat → Words → Option ℕ → Prefix
repeat_word repeat.Absent a b = word_in a b
repeat_word repeat.F2 a b = prefix.Absent
repeat_word repeat.F3 a b = prefix.Absent

-- the word by the bytes of `lock` and of repeats
abbrev pub lock_word : Repeat → Words → Option ℕ → Option ℕ → Prefix
lock_word e a rep None = repeat_word e a rep
lock_word e a rep (Some b) = prefix.Lock

-- the word by all bytes
abbrev pub prefix_in : Repeat → Words → Option ℕ → Option ℕ → Option ℕ → Prefix
prefix_in e a None rep lock = lock_word e a rep lock
prefix_in e a (Some b) rep lock = if b == 62 then prefix.Notrack else lock_word e a rep lock

-- what stands behind the opcode, read by the shape of a row
pub record Shaped : Type 0 where
  pub reg : ℕ
  pub low : ℕ
  pub place : Location
  pub rest : List ℕ

-- no registers
abbrev pub plain_shaped : List ℕ → Shaped
plain_shaped bytes = record { reg = 0; low = 0; place = nowhere; rest = bytes }

-- the register in the opcode
abbrev pub low_shaped : ℕ → List ℕ → Shaped
low_shaped low bytes = record { reg = 0; low = low; place = nowhere; rest = bytes }

-- ModRM.reg
abbrev pub reg_in : ℕ → List ℕ → ℕ
reg_in r [] = 0
reg_in r (m ∷ bytes) = m / 8 % 8 + 8 * r

-- registers by ModRM
abbrev pub modrm_shaped : ℕ → Placed → Shaped
modrm_shaped reg p = record { reg = reg; low = 0; place = p.place; rest = p.rest }

-- by the shape, by how much the opcode is above the row's, and by REX
abbrev pub shaped : Shape → ℕ → ℕ → List ℕ → Shaped
shaped shape.Plain above rex bytes = plain_shaped bytes
shaped shape.Low above rex bytes = low_shaped (above + 8 * (rex % 2)) bytes
shaped shape.LowNotFirst above rex bytes = low_shaped (above + 8 * (rex % 2)) bytes
shaped (shape.Fixed b) above rex bytes = plain_shaped (tail_of bytes)
shaped (shape.Digit d m) above rex bytes = modrm_shaped (reg_in (rex / 4 % 2) bytes) (place_in (rex / 2 % 2) (rex % 2) bytes)
shaped (shape.Slash m) above rex bytes = modrm_shaped (reg_in (rex / 4 % 2) bytes) (place_in (rex / 2 % 2) (rex % 2) bytes)

-- the fields, with the registers
abbrev pub with_shaped : Row → Head → Shaped → Fields
with_shaped r h s = record {
  «prefix» = prefix_in r.lead.repeat r.words h.first h.repeat h.lock;
  segment = segment_in h.first;
  bare_rex = is_bare h.rex;
  reg = s.reg;
  low = s.low;
  place = s.place;
  held = Some (immediate_in r.immediate s.rest);
}

-- the fields that the row would have in bytes with this head, this opcode and these bytes behind it: whether they fit it is another question
unfoldable pub fields_in : Row → Head → ℕ → List ℕ → Fields
fields_in r h o bytes = with_shaped r h (shaped r.shape (o - r.code) (rex_value h.rex) bytes)
