-- What the calls on expressions know of symbols and names.
use Rattle.std.specs.Prelude.{ℕ, ◌+◌, ◌*◌, ◌/◌, ◌%◌, ◌^◌, ◌==◌, nat_lt, List, [], ◌∷◌, if◌then◌else◌}
use Rattle.asm_expr.specs.declared.trees.Written.{Written}
use Rattle.asm_expr.specs.declared.trees.Written.TheVariants.{Plain, Back, Next}
use Rattle.asm_expr.specs.Knowledge.{Told, absent, label}

-- the symbol of an instance of a numeric label: 16 for each number, of which 2^16 have symbols of their own
abbrev pub instance_of : ℕ → ℕ → ℕ
instance_of number instance = number % 2 ^ 16 * 16 + instance

-- the symbol that the place is
abbrev pub the_place : ℕ
the_place = 2 ^ 31

-- the first byte of a name, and 0 where there is none
abbrev pub first_byte : List ℕ → ℕ
first_byte [] = 0
first_byte (byte ∷ bytes) = byte

-- each numeric label has three instances before the place, and names that begin with one byte mean one symbol
abbrev pub meant_by : Written → ℕ
meant_by (Plain text) = 2 ^ 30 + first_byte text
meant_by (Back number) = instance_of number 3
meant_by (Next number) = instance_of number 4

-- the place stands behind 100 bytes of stretch 1, an instance of a numeric label in the stretch of its number, and of other symbols nothing is known
abbrev pub numbered : ℕ → Told
numbered symbol =
    if symbol == the_place then label 1 100
    else (if nat_lt symbol (2 ^ 30) then label (symbol / 16) (symbol % 16) else absent)
