-- The number of functions that `--self-load N` asks for.
use Rattle.std.specs.Prelude.{ℕ, Bool, true, false, ◌&&◌, nat_le, List, Option, None, Some, decimal, is_some, if◌then◌else◌}
use Rattle.std.specs.Option.{option_and_then}
use Rattle.std.specs.Str.{bytes_eq}
use Rattle.std.specs.Str.Parse.{digits_value}

-- the number is 1 to 100,000, and the word is its text
abbrev pub is_count : ℕ → List ℕ → Bool
is_count number word = nat_le 1 number && nat_le number 100000 && bytes_eq (decimal number) word

-- the number, where the word asks for so many functions
abbrev pub functions_in : ℕ → List ℕ → Option ℕ
functions_in number word = if is_count number word then Some number else None

-- the number of functions that a word asks for
unfoldable pub functions_of : List ℕ → Option ℕ
functions_of word = functions_in (digits_value 10 word) word

-- the number of functions that a value asks for, if there is one
abbrev pub load_of : Option (List ℕ) → Option ℕ
load_of value = option_and_then functions_of value

-- the option takes a number of functions, and no FILE stands beside it
abbrev pub is_load : (value file : Option (List ℕ)) → Bool
is_load None file = true
is_load (Some word) None = is_some (functions_of word)
is_load (Some word) (Some file) = false
