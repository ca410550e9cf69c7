-- What the bytes between the quotes of a string stand for (GNU as manual, "Strings").
use Rattle.std.specs.Prelude.{ℕ, zero, suc, ◌+◌, ◌%◌, ◌==◌, min, if◌then◌else◌, List, [], ◌∷◌, take}
use Rattle.std.specs.List.{prefix_len}
use Rattle.asm_base.specs.Digits.{is_digit_of, number_after}

-- how many octal digits stand in front, three at most
abbrev pub octal_length : List ℕ → ℕ
octal_length bytes = min 3 (prefix_len (is_digit_of 8) bytes)

-- how many hexadecimal digits stand in front
abbrev pub hexadecimal_length : List ℕ → ℕ
hexadecimal_length bytes = prefix_len (is_digit_of 16) bytes

-- the low 8 bits of the number that digits spell
unfoldable pub low_byte : ℕ → List ℕ → ℕ
low_byte radix digits = number_after radix 0 digits % 256

-- how many bytes behind a backslash belong to it
unfoldable pub escape_length : List ℕ → ℕ
escape_length [] = 0
escape_length (first ∷ rest) =
    if is_digit_of 8 first then octal_length (first ∷ rest)
    else (if first == 120 then 1 + hexadecimal_length rest else 1)

-- `\b`, `\f`, `\n`, `\r` and `\t`; any other byte stands for itself
unfoldable pub control_byte : ℕ → ℕ
control_byte byte =
    if byte == 98 then 8
    else (if byte == 102 then 12
    else (if byte == 110 then 10
    else (if byte == 114 then 13
    else (if byte == 116 then 9 else byte))))

-- the byte that a backslash stands for with what follows it
unfoldable pub escaped_byte : List ℕ → ℕ
escaped_byte [] = 92
escaped_byte (first ∷ rest) =
    if is_digit_of 8 first then low_byte 8 (take (octal_length (first ∷ rest)) (first ∷ rest))
    else (if first == 120 then low_byte 16 (take (hexadecimal_length rest) rest) else control_byte first)

-- what the bytes stand for, the first few of which are left out
unfoldable pub string_value_from : ℕ → List ℕ → List ℕ
string_value_from left_out [] = []
string_value_from (suc left_out) (byte ∷ rest) = string_value_from left_out rest
string_value_from zero (byte ∷ rest) =
    if byte == 92 then (escaped_byte rest ∷ string_value_from (escape_length rest) rest) else (byte ∷ string_value_from 0 rest)

-- what the bytes stand for
abbrev pub string_value : List ℕ → List ℕ
string_value = string_value_from 0
