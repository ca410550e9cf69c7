-- Classes of bytes (GNU as manual, chapter 3, "Syntax").
use Rattle.std.specs.Prelude.{ℕ, Bool, false, not, ◌&&◌, ◌||◌, ◌==◌, nat_le, List, [], ◌∷◌, codes}
use Rattle.std.specs.List.{list_any}
use Rattle.std.specs.Char.{is_ascii_alphabetic, is_ascii_digit, is_ascii_punctuation}

-- a line feed
abbrev pub is_feed : ℕ → Bool
is_feed byte = byte == 10

-- a space or a tab
unfoldable pub is_blank : ℕ → Bool
is_blank byte = byte == 32 || byte == 9

-- a letter, `_`, `.` or a byte past ASCII: it begins a name
unfoldable pub is_name_start : ℕ → Bool
is_name_start byte = is_ascii_alphabetic byte || byte == 95 || byte == 46 || nat_le 128 byte

-- what begins a name, a digit or `$`: it continues a name
unfoldable pub is_name_byte : ℕ → Bool
is_name_byte byte = is_name_start byte || is_ascii_digit byte || byte == 36

-- punctuation other than quotes, `#` and `;` (what begins a name is tested first)
unfoldable pub is_operator_byte : ℕ → Bool
is_operator_byte byte =
    is_ascii_punctuation byte && not (list_any (λ mark. mark == byte) (codes "\"'#;"))

-- the bytes begin with this byte
abbrev pub begins_with : ℕ → List ℕ → Bool
begins_with byte [] = false
begins_with byte (first ∷ rest) = first == byte

-- the line goes on: a byte stands in front that is no line feed
abbrev pub line_goes_on : List ℕ → Bool
line_goes_on [] = false
line_goes_on (first ∷ rest) = not (is_feed first)
