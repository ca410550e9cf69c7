-- What stands before an opcode, byte by byte.
use Rattle.std.specs.Prelude.{◌==◌, ◌&&◌, ◌||◌, ◌∷◌, [], ℕ, nat_le, nat_lt, List, Bool, Option, Some, None, if◌then◌else◌}
use Rattle.x86_table.specs.declared.forms.Map.{Map}
use Rattle.x86_table.specs.declared.forms.Map.TheVariants as map

-- 3E, 64, 65
abbrev pub is_first : ℕ → Bool
is_first b = b == 62 || (b == 100 || b == 101)

-- 66
abbrev pub is_size : ℕ → Bool
is_size b = b == 102

-- F2, F3
abbrev pub is_repeat : ℕ → Bool
is_repeat b = b == 242 || b == 243

-- F0
abbrev pub is_lock : ℕ → Bool
is_lock b = b == 240

-- 40 to 4F
abbrev pub is_rex : ℕ → Bool
is_rex b = nat_le 64 b && nat_lt b 80

-- the byte in front, if it is one of these
abbrev pub front_if : (ℕ → Bool) → List ℕ → Option ℕ
front_if p [] = None
front_if p (b ∷ bytes) = if p b then Some b else None

-- all but the first byte
abbrev pub tail_of : List ℕ → List ℕ
tail_of [] = []
tail_of (b ∷ bytes) = bytes

-- what is behind the byte, where it stands
abbrev pub behind : Option ℕ → List ℕ → List ℕ
behind None bytes = bytes
behind (Some b) bytes = tail_of bytes

-- the map by the byte behind 0F
abbrev pub escaped : List ℕ → Map
escaped [] = map.Two
escaped (b ∷ bytes) = if b == 56 then map.Three38 else (if b == 58 then map.Three3A else map.Two)

-- the map of the opcode in front
abbrev pub map_in : List ℕ → Map
map_in [] = map.One
map_in (b ∷ bytes) = if b == 15 then escaped bytes else map.One

-- the bytes before an opcode and its escape, each where it stands, and what is behind them
pub record Head : Type 0 where
  pub first : Option ℕ
  pub size : Option ℕ
  pub repeat : Option ℕ
  pub lock : Option ℕ
  pub rex : Option ℕ
  pub rest : List ℕ

-- the head of bytes
unfoldable pub head_of : List ℕ → Head
head_of bytes =
    let first = front_if is_first bytes in let a = behind first bytes in
    let size = front_if is_size a in let b = behind size a in
    let repeat = front_if is_repeat b in let c = behind repeat b in
    let lock = front_if is_lock c in let d = behind lock c in
    let rex = front_if is_rex d in record { first = first; size = size; repeat = repeat; lock = lock; rex = rex; rest = behind rex d }

-- the bytes from the opcode on
abbrev pub past_escapes : Map → List ℕ → List ℕ
past_escapes map.One bytes = bytes
past_escapes map.Two bytes = tail_of bytes
past_escapes map.Three38 bytes = tail_of (tail_of bytes)
past_escapes map.Three3A bytes = tail_of (tail_of bytes)

-- the first byte
abbrev pub opcode_of : List ℕ → Option ℕ
opcode_of [] = None
opcode_of (b ∷ bytes) = Some b
