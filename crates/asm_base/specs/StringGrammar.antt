-- The grammar of what stands between the quotes of a string, and what it stands for (GNU as manual, "Strings").
use Rattle.std.specs.Prelude.{◌≡◌, ◌≢◌, ℕ, ◌≤◌, Bool, true, false, List, [], ◌∷◌, ◌++◌, length, All, ◌⊎◌}
use Rattle.asm_base.specs.Digits.{is_digit_of}
use Rattle.asm_base.specs.Strings.{control_byte, low_byte}

-- a digit of the radix stands in front
abbrev pub begins_with_digit : ℕ → List ℕ → Bool
begins_with_digit radix [] = false
begins_with_digit radix (first ∷ rest) = is_digit_of radix first

-- all of them are digits of the radix
abbrev pub AreDigits : ℕ → List ℕ → Type 0
AreDigits radix digits = All (λ digit. is_digit_of radix digit ≡ true) digits

-- the bytes stand for the value: each for itself, but for escapes, which take as many digits as they can
pub data StandsFor : List ℕ → List ℕ → Type 0 where
  nothing : StandsFor [] []
  plain : (byte : ℕ) (rest value : List ℕ) → byte ≢ 92 → StandsFor rest value
      → StandsFor (byte ∷ rest) (byte ∷ value)
  control : (byte : ℕ) (rest value : List ℕ) → is_digit_of 8 byte ≡ false → byte ≢ 120
      → StandsFor rest value → StandsFor (92 ∷ byte ∷ rest) (control_byte byte ∷ value)
  octal : (bytes digits rest value : List ℕ) → bytes ≡ digits ++ rest → AreDigits 8 digits
      → 1 ≤ length digits → length digits ≤ 3
      → (length digits ≡ 3) ⊎ (begins_with_digit 8 rest ≡ false) → StandsFor rest value
      → StandsFor (92 ∷ bytes) (low_byte 8 digits ∷ value)
  hexadecimal : (bytes digits rest value : List ℕ) → bytes ≡ digits ++ rest → AreDigits 16 digits
      → begins_with_digit 16 rest ≡ false
      → StandsFor rest value → StandsFor (92 ∷ 120 ∷ bytes) (low_byte 16 digits ∷ value)
