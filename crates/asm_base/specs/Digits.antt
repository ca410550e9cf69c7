-- The numbers that digits spell (GNU as manual, "Integers").
use Rattle.std.specs.Prelude.{ℕ, ◌+◌, ◌-◌, ◌*◌, ◌&&◌, Bool, List, [], ◌∷◌, nat_lt, nat_le, if◌then◌else◌}

-- the value of a digit of any radix up to 16, and 16 for any other byte
unfoldable pub digit_of : ℕ → ℕ
digit_of byte =
    if nat_le 48 byte && nat_le byte 57 then byte - 48
    else (if nat_le 97 byte && nat_le byte 102 then byte - 87
    else (if nat_le 65 byte && nat_le byte 70 then byte - 55 else 16))

-- the radix has this digit
abbrev pub is_digit_of : ℕ → ℕ → Bool
is_digit_of radix byte = nat_lt (digit_of byte) radix

-- the number that digits spell when they continue this one
unfoldable pub number_after : ℕ → ℕ → List ℕ → ℕ
number_after radix number [] = number
number_after radix number (digit ∷ digits) =
    number_after radix (number * radix + digit_of digit) digits
