-- Sets of numbers, of which it is told of each from 0 on whether it has it.
use Rattle.std.specs.Prelude.{◌==◌, ◌/◌, ◌%◌, ◌^◌, ◌++◌, ℕ, zero, suc, Bool, true, false, List, [], ◌∷◌}

-- the word has this bit
abbrev pub has_bit : (word k : ℕ) → Bool
has_bit word k = word / 2 ^ k % 2 == 1

-- the first bits of a word
unfoldable pub low_bits : (word count : ℕ) → List Bool
low_bits word zero = []
low_bits word (suc n) = low_bits word n ++ has_bit word n ∷ []

-- a bit counts
abbrev pub counted : Bool → ℕ
counted true = 1
counted false = 0
