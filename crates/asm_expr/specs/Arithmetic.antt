-- What operators give for constants, modulo 2^64 (GNU as manual, "Infix Operators", with the signs and shifts stated here).
use Rattle.std.specs.Prelude.{ℕ, ◌+◌, ◌-◌, ◌*◌, ◌/◌, ◌%◌, ◌^◌, ◌==◌, ◌&&◌, ◌||◌, Bool, true, false, not, nat_lt, nat_le, if◌then◌else◌, bit_and, bit_or, bit_xor, Result, Ok, Err}
use Rattle.asm_expr.specs.declared.faults.ExprCause.{ExprCause}
use Rattle.asm_expr.specs.declared.faults.ExprCause.TheVariants.{DivisionByZero}
use Rattle.asm_expr.specs.declared.trees.UnaryOp.{UnaryOp}
use Rattle.asm_expr.specs.declared.trees.UnaryOp.TheVariants.{Minus, Complement}
use Rattle.asm_expr.specs.declared.trees.BinaryOp.{BinaryOp}
use Rattle.asm_expr.specs.declared.trees.BinaryOp.TheVariants.{Mul, Div, Rem, Shl, Shr, Or, And, Xor, OrNot, Add, Sub, Eq, Ne, Lt, Gt, Le, Ge, BothTrue, OneTrue}
use Rattle.asm_expr.specs.Forms.{wrapped, signed}

-- the number is negative in two's complement
abbrev pub is_negative : ℕ → Bool
is_negative n = nat_le (2 ^ 63) n

-- how far it is from 0
abbrev pub magnitude : ℕ → ℕ
magnitude n = if is_negative n then 2 ^ 64 - n else n

-- just one of the two
abbrev pub one_of : Bool → Bool → Bool
one_of true other = not other
one_of false other = other

-- signed, towards 0
abbrev pub quotient : ℕ → ℕ → ℕ
quotient a b = signed (one_of (is_negative a) (is_negative b)) (magnitude a / magnitude b)

-- what is left of a signed division towards 0: it has the sign of the first number
abbrev pub remainder : ℕ → ℕ → ℕ
remainder a b = signed (is_negative a) (magnitude a % magnitude b)

-- signed: two numbers of one sign compare as they stand
abbrev pub is_signed_below : ℕ → ℕ → Bool
is_signed_below a b = if one_of (is_negative a) (is_negative b) then is_negative a else nat_lt a b

-- -1 for true and 0 for false
abbrev pub comparison : Bool → ℕ
comparison holds = if holds then 2 ^ 64 - 1 else 0

-- 1 for true and 0 for false
abbrev pub truth : Bool → ℕ
truth holds = if holds then 1 else 0

-- a number other than 0 counts as true
abbrev pub is_true : ℕ → Bool
is_true n = not (n == 0)

-- each bit is the other one
abbrev pub complement : ℕ → ℕ
complement n = 2 ^ 64 - 1 - n

-- a division by 0 is a fault
abbrev pub unless_zero : ℕ → ℕ → Result ℕ ExprCause
unless_zero divisor n = if divisor == 0 then Err DivisionByZero else Ok n

-- what an operator gives for two constants
unfoldable pub combined : BinaryOp → ℕ → ℕ → Result ℕ ExprCause
combined Mul a b = Ok (wrapped (a * b))
combined Div a b = unless_zero b (quotient a b)
combined Rem a b = unless_zero b (remainder a b)
combined Shl a b = Ok (if nat_lt b 64 then wrapped (a * 2 ^ b) else 0)
combined Shr a b = Ok (if nat_lt b 64 then a / 2 ^ b else 0)
combined Or a b = Ok (bit_or a b)
combined And a b = Ok (bit_and a b)
combined Xor a b = Ok (bit_xor a b)
combined OrNot a b = Ok (bit_or a (complement b))
combined Add a b = Ok (wrapped (a + b))
combined Sub a b = Ok (wrapped (a + signed true b))
combined Eq a b = Ok (comparison (a == b))
combined Ne a b = Ok (comparison (not (a == b)))
combined Lt a b = Ok (comparison (is_signed_below a b))
combined Gt a b = Ok (comparison (is_signed_below b a))
combined Le a b = Ok (comparison (not (is_signed_below b a)))
combined Ge a b = Ok (comparison (not (is_signed_below a b)))
combined BothTrue a b = Ok (truth (is_true a && is_true b))
combined OneTrue a b = Ok (truth (is_true a || is_true b))

-- what a prefix operator gives for a constant
abbrev pub turned : UnaryOp → ℕ → ℕ
turned Minus n = signed true n
turned Complement n = complement n
