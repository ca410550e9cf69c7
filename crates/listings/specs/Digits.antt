-- Numbers in hexadecimal, in lower-case digits.
use Rattle.std.specs.Prelude.{ℕ, ◌+◌, ◌/◌, ◌%◌, ◌^◌, nat_lt, List, [], ◌∷◌, ◌++◌, if◌then◌else◌}

-- the digit of a number below 16
abbrev pub hex_digit : ℕ → ℕ
hex_digit n = if nat_lt n 10 then 48 + n else 87 + n

-- a byte in two digits
unfoldable pub byte_digits : ℕ → List ℕ
byte_digits byte = hex_digit (byte / 16) ∷ hex_digit (byte % 16) ∷ []

-- an offset in eight digits, those of its last four bytes, of which the highest is first
unfoldable pub offset_digits : ℕ → List ℕ
offset_digits n = byte_digits (n / 2 ^ 24 % 256) ++ byte_digits (n / 2 ^ 16 % 256) ++ byte_digits (n / 2 ^ 8 % 256) ++ byte_digits (n % 256)
