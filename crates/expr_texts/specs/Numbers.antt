-- The number that a token of digits spells (GNU as manual, "Integers").
use Rattle.std.specs.Prelude.{ℕ, ◌^◌, ◌==◌, ◌||◌, List, [], ◌∷◌, nat_lt, if◌then◌else◌, Result, Ok, Err}
use Rattle.std.specs.List.{list_all}
use Rattle.asm_expr.specs.declared.faults.ExprCause.{ExprCause}
use Rattle.asm_expr.specs.declared.faults.ExprCause.TheVariants.{BadExpression, NumberTooWide}
use Rattle.asm_base.specs.Digits.{is_digit_of, number_after}

-- digits of a radix, at least one, none of another radix, and their number is not too wide
unfoldable pub numeral : ℕ → List ℕ → Result ℕ ExprCause
numeral radix [] = Err BadExpression
numeral radix (digit ∷ digits) =
    if list_all (is_digit_of radix) (digit ∷ digits)
    then (if nat_lt (number_after radix 0 (digit ∷ digits)) (2 ^ 64) then Ok (number_after radix 0 (digit ∷ digits)) else Err NumberTooWide)
    else Err BadExpression

-- behind a zero an `x` begins hexadecimal and a `b` binary digits, and a digit octal ones; other numbers are decimal
unfoldable pub spelled_number : List ℕ → Result ℕ ExprCause
spelled_number [] = numeral 10 []
spelled_number (first ∷ []) = numeral 10 (first ∷ [])
spelled_number (first ∷ second ∷ rest) =
    if first == 48 then (if second == 120 || second == 88 then numeral 16 rest
    else (if second == 98 || second == 66 then numeral 2 rest else numeral 8 (second ∷ rest)))
    else numeral 10 (first ∷ second ∷ rest)
