-- Which rows admit a head, and the row of bytes: the first of its opcode's rows that does.
use Rattle.std.specs.Prelude.{◌+◌, ◌-◌, ◌/◌, ◌%◌, ◌==◌, ◌&&◌, ◌∷◌, [], ℕ, nat_le, nat_lt, List, Bool, true, not, false, Option, Some, None, is_some, if◌then◌else◌}
use Rattle.x86_table.specs.declared.forms.Map.{Map}
use Rattle.x86_table.specs.declared.forms.Repeat.{Repeat}
use Rattle.x86_table.specs.declared.forms.Rm.{Rm}
use Rattle.x86_table.specs.declared.forms.Rm.TheVariants as rm
use Rattle.x86_table.specs.declared.forms.Words.{Words}
use Rattle.x86_table.specs.declared.forms.Shape.{Shape}
use Rattle.x86_table.specs.declared.forms.Shape.TheVariants as shape
use Rattle.x86_table.specs.declared.forms.Row.{Row}
use Rattle.x86_table.specs.Bytes.{bit}
use Rattle.x86_table.specs.Fits.{takes_none}
use Rattle.x86_table.specs.Heads.{takes_f2, takes_f3, map_number, span}
use Rattle.x86_decode.specs.Heads.{Head}
use Rattle.x86_decode.specs.FieldReadings.{rex_value}

-- ModRM.mod may be that of the byte
abbrev pub takes_mode : Rm → ℕ → Bool
takes_mode rm.Any m = true
takes_mode rm.Memory m = nat_lt m 192
takes_mode rm.Register m = nat_le 192 m

-- the byte behind the opcode is this one
abbrev pub takes_fixed : ℕ → List ℕ → Bool
takes_fixed b [] = false
takes_fixed b (m ∷ bytes) = m == b

-- ModRM has the digit
abbrev pub takes_digit : ℕ → Rm → List ℕ → Bool
takes_digit d n [] = false
takes_digit d n (m ∷ bytes) = (m / 8 % 8 == d) && takes_mode n m

-- ModRM may stand
abbrev pub takes_slash : Rm → List ℕ → Bool
takes_slash n [] = false
takes_slash n (m ∷ bytes) = takes_mode n m

-- the shape takes what is behind the opcode, which is so much above the row's, with this REX.B
abbrev pub takes_tail : Shape → ℕ → ℕ → List ℕ → Bool
takes_tail shape.Plain above high bytes = high == 0
takes_tail shape.Low above high bytes = true
takes_tail shape.LowNotFirst above high bytes = not (above + high == 0)
takes_tail (shape.Fixed b) above high bytes = takes_fixed b bytes
takes_tail (shape.Digit d n) above high bytes = takes_digit d n bytes
takes_tail (shape.Slash n) above high bytes = takes_slash n bytes

-- the repeat byte may stand
abbrev pub takes_repeat : Repeat → Words → Option ℕ → Bool
takes_repeat e a None = takes_none e
takes_repeat e a (Some b) = if b == 243 then takes_f3 e a else takes_f2 e a

-- the row has opcodes of this map up to this one
abbrev pub covers : Map → ℕ → Row → Bool
covers m o r = (map_number r.map == map_number m) && (nat_le r.code o && nat_lt o (r.code + span r.shape))

-- the row admits this head, with this opcode and what is behind it
unfoldable pub admits : Map → Head → ℕ → List ℕ → Row → Bool
admits m h o bytes r = covers m o r && ((bit r.lead.operand_size == bit (is_some h.size)) && ((bit r.lead.wide == rex_value h.rex / 8)
    && (takes_repeat r.lead.repeat r.words h.repeat && takes_tail r.shape (o - r.code) (rex_value h.rex % 2) bytes)))
