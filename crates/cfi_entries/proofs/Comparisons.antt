-- What comparisons of numbers answer.
use Rattle.std.proofs.Common.{◌≡◌, ℕ, ◌<◌, true, nat_lt, arith}

pub is_below : (a b : ℕ) → a < b → nat_lt a b ≡ true
is_below a b below = grind arith
