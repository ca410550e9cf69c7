-- Names of registers that are no operands here: of segments, control, debug, x87, MMX, AVX, AMX, masks and bounds (Intel SDM, volume 1, section 3.7.2, and volume 3, section 2.5; GNU as has
-- them as registers where these have no mark).
use Rattle.std.specs.Prelude.{ℕ, ◌==◌, ◌&&◌, ◌||◌, nat_le, Bool, false, List, [], ◌∷◌}
use Rattle.std.specs.Char.{to_ascii_lowercase}

-- the byte is a digit, and no greater one than this
abbrev pub is_digit_to : ℕ → ℕ → Bool
is_digit_to last byte = nat_le 48 byte && nat_le byte last

-- `cs`, `ds`, `es`, `ss`, `st`, `k0` to `k7`
abbrev pub is_other_two : ℕ → ℕ → Bool
is_other_two a b =
    ((b == 115) && ((a == 99) || ((a == 100) || ((a == 101) || (a == 115))))) || (((a == 115) && (b == 116)) || ((a == 107) && is_digit_to 55 b))

-- the letters of `cr`, `dr` and `db`, of control and debug registers
abbrev pub is_system : ℕ → ℕ → Bool
is_system a b = ((b == 114) && ((a == 99) || (a == 100))) || ((a == 100) && (b == 98))

-- `cr0` to `cr9`, `dr0` to `dr9`, `db0` to `db9`, `mm0` to `mm7`, `eip`
abbrev pub is_other_three : ℕ → ℕ → ℕ → Bool
is_other_three a b c =
    (is_system a b && is_digit_to 57 c) || (((a == 109) && ((b == 109) && is_digit_to 55 c)) || ((a == 101) && ((b == 105) && (c == 112))))

-- `cr10` to `cr15`, `dr10` to `dr15`, `db10` to `db15`
abbrev pub is_late_system : ℕ → ℕ → ℕ → ℕ → Bool
is_late_system a b c d = is_system a b && ((c == 49) && is_digit_to 53 d)

-- `ymm0` to `ymm9`, `zmm0` to `zmm9`, `tmm0` to `tmm7`
abbrev pub is_wide : ℕ → ℕ → ℕ → ℕ → Bool
is_wide a b c d = (b == 109) && ((c == 109) && ((((a == 121) || (a == 122)) && is_digit_to 57 d) || ((a == 116) && is_digit_to 55 d)))

-- these, `bnd0` to `bnd3`, and `flat`
abbrev pub is_other_four : ℕ → ℕ → ℕ → ℕ → Bool
is_other_four a b c d =
    (is_late_system a b c d || is_wide a b c d)
    || (((a == 98) && ((b == 110) && ((c == 100) && is_digit_to 51 d))) || ((a == 102) && ((b == 108) && ((c == 97) && (d == 116)))))

-- `xmm`, `ymm` or `zmm` and a number from 10 to 31
abbrev pub is_other_five : ℕ → ℕ → ℕ → ℕ → ℕ → Bool
is_other_five a b c d e =
    ((a == 120) || ((a == 121) || (a == 122)))
    && ((b == 109) && ((c == 109) && ((((d == 49) || (d == 50)) && is_digit_to 57 e) || ((d == 51) && is_digit_to 49 e))))

-- the name is one of these, in either case
unfoldable pub is_other_register : List ℕ → Bool
is_other_register [] = false
is_other_register (a ∷ []) = false
is_other_register (a ∷ b ∷ []) = is_other_two (to_ascii_lowercase a) (to_ascii_lowercase b)
is_other_register (a ∷ b ∷ c ∷ []) = is_other_three (to_ascii_lowercase a) (to_ascii_lowercase b) (to_ascii_lowercase c)
is_other_register (a ∷ b ∷ c ∷ d ∷ []) = is_other_four (to_ascii_lowercase a) (to_ascii_lowercase b) (to_ascii_lowercase c) (to_ascii_lowercase d)
is_other_register (a ∷ b ∷ c ∷ d ∷ e ∷ []) =
    is_other_five (to_ascii_lowercase a) (to_ascii_lowercase b) (to_ascii_lowercase c) (to_ascii_lowercase d) (to_ascii_lowercase e)
is_other_register (a ∷ b ∷ c ∷ d ∷ e ∷ f ∷ others) = false
