-- Whether two rows admit one head: prefixes, REX.W, opcode, and what a row fixes of ModRM (Intel SDM, volume 2, section 2.1).
use Rattle.std.specs.Prelude.{zero, suc, ◌+◌, ◌/◌, ◌%◌, ◌==◌, ◌&&◌, ◌||◌, ◌∷◌, [], ℕ, nat_lt, nat_le, List, Bool, true, false, not, cond}
use Rattle.x86_table.specs.declared.forms.Repeat.{Repeat}
use Rattle.x86_table.specs.declared.forms.Repeat.TheVariants as repeat
use Rattle.x86_table.specs.declared.forms.Map.{Map}
use Rattle.x86_table.specs.declared.forms.Map.TheVariants as map
use Rattle.x86_table.specs.declared.forms.Rm.{Rm}
use Rattle.x86_table.specs.declared.forms.Rm.TheVariants as rm
use Rattle.x86_table.specs.declared.forms.Shape.{Shape}
use Rattle.x86_table.specs.declared.forms.Shape.TheVariants as shape
use Rattle.x86_table.specs.declared.forms.Words.{Words}
use Rattle.x86_table.specs.declared.forms.Row.{Row}
use Rattle.x86_table.specs.Bytes.{bit}
use Rattle.x86_table.specs.Fits.{takes_none, may_rep, may_repe, may_repne}

-- F2 may stand
abbrev pub takes_f2 : Repeat → Words → Bool
takes_f2 repeat.F2 a = true
takes_f2 repeat.F3 a = false
takes_f2 repeat.Absent a = may_repne a

-- F3 may stand
abbrev pub takes_f3 : Repeat → Words → Bool
takes_f3 repeat.F3 a = true
takes_f3 repeat.F2 a = false
takes_f3 repeat.Absent a = may_rep a || may_repe a

-- neither F2 nor F3 stands in both, or one of them does
abbrev pub share_repeat : Row → Row → Bool
share_repeat r s = takes_none r.lead.repeat && takes_none s.lead.repeat
    || (takes_f2 r.lead.repeat r.words && takes_f2 s.lead.repeat s.words || takes_f3 r.lead.repeat r.words && takes_f3 s.lead.repeat s.words)

-- the maps of opcodes, by numbers
abbrev pub map_number : Map → ℕ
map_number map.One = 1
map_number map.Two = 2
map_number map.Three38 = 3
map_number map.Three3A = 4

-- how many bytes the opcode may be
abbrev pub span : Shape → ℕ
span shape.Plain = 1
span shape.Low = 8
span shape.LowNotFirst = 8
span (shape.Fixed b) = 1
span (shape.Digit d m) = 1
span (shape.Slash m) = 1

-- the one opcode is the other one's with the accumulator, which is left out there
abbrev pub is_left_out : Shape → Shape → Bool
is_left_out shape.Plain shape.LowNotFirst = true
is_left_out shape.LowNotFirst shape.Plain = true
is_left_out a b = false

-- one opcode is both rows'
abbrev pub share_opcode : Row → Row → Bool
share_opcode r s = (map_number r.map == map_number s.map) && (nat_lt r.code (s.code + span s.shape) && (nat_lt s.code (r.code + span r.shape)
    && not (is_left_out r.shape s.shape && (r.code == s.code))))

-- ModRM.mod can be one in both
abbrev pub share_rm : Rm → Rm → Bool
share_rm rm.Memory rm.Register = false
share_rm rm.Register rm.Memory = false
share_rm a b = true

-- the fixed ModRM byte has the digit and the mode
abbrev pub share_fixed : ℕ → ℕ → Rm → Bool
share_fixed b d rm.Any = b / 8 % 8 == d
share_fixed b d rm.Memory = b / 8 % 8 == d && nat_lt b 192
share_fixed b d rm.Register = b / 8 % 8 == d && nat_le 192 b

-- what follows the opcode can be one in both
abbrev pub share_modrm : Shape → Shape → Bool
share_modrm (shape.Fixed a) (shape.Fixed b) = a == b
share_modrm (shape.Fixed a) (shape.Digit d m) = share_fixed a d m
share_modrm (shape.Digit d m) (shape.Fixed b) = share_fixed b d m
share_modrm (shape.Digit d m) (shape.Digit e n) = d == e && share_rm m n
share_modrm (shape.Digit d m) (shape.Slash n) = share_rm m n
share_modrm (shape.Slash m) (shape.Digit e n) = share_rm m n
share_modrm (shape.Slash m) (shape.Slash n) = share_rm m n
share_modrm a b = true

-- both rows admit one head
abbrev pub share_head : Row → Row → Bool
share_head r s = (bit r.lead.operand_size == bit s.lead.operand_size) && ((bit r.lead.wide == bit s.lead.wide) && (share_opcode r s && (share_repeat r s && share_modrm r.shape s.shape)))

-- the row shares its head with none of these
abbrev pub is_apart_from : Row → List Row → Bool
is_apart_from r [] = true
is_apart_from r (s ∷ rows) = not (share_head r s) && is_apart_from r rows

-- no two rows share a head
abbrev pub all_apart : List Row → Bool
all_apart [] = true
all_apart (r ∷ rows) = is_apart_from r rows && all_apart rows

-- in which order the bytes before the opcode stand; 7 for all others
abbrev pub rank : ℕ → ℕ
rank b = cond (nat_le 64 b && nat_lt b 80) 5 (cond (b == 15) 6 (cond (b == 102) 2 (cond (b == 240) 4 (cond (b == 242 || b == 243) 3
    (cond (b == 62 || (b == 100 || b == 101)) 1 7)))))

-- none of so many bytes from this one on is a prefix, REX or 0F
abbrev pub none_leads : ℕ → ℕ → Bool
none_leads o zero = true
none_leads o (suc n) = (rank (o + n) == 7) && none_leads o n

-- none of so many bytes from this one on is 38 or 3A, the second byte of an escape
abbrev pub none_escapes : ℕ → ℕ → Bool
none_escapes o zero = true
none_escapes o (suc n) = not (o + n == 56 || o + n == 58) && none_escapes o n

-- no opcode of the map is what may stand before one
abbrev pub opcode_stands : Map → ℕ → ℕ → Bool
opcode_stands map.One o n = none_leads o n
opcode_stands map.Two o n = none_escapes o n
opcode_stands map.Three38 o n = true
opcode_stands map.Three3A o n = true

-- no opcode of the row is what may stand before one, and each is a byte
abbrev pub row_stands : Row → Bool
row_stands r = opcode_stands r.map r.code (span r.shape) && nat_le (r.code + span r.shape) 256

-- this holds of all rows
abbrev pub all_stand : List Row → Bool
all_stand [] = true
all_stand (r ∷ rows) = row_stands r && all_stand rows
