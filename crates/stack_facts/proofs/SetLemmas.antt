use Rattle.std.proofs.Common.{◌≡◌, ℕ, zero, suc, ◌<◌, ◌≤◌, Bool, true, false, List, [], ◌∷◌, length, get_or, sum_by, ap, arith}
use Rattle.std.proofs.lemmas.List.Sums.{sum_by-cons}
use Rattle.number_sets.specs.Bits.{counted}

-- no more numbers are in a set than it is long
pub counted_at_most : (bits : List Bool) → sum_by counted bits ≤ length bits
counted_at_most [] = omega arith
counted_at_most (true ∷ bits) = let i = counted_at_most bits in let e = sum_by-cons counted true bits in omega arith
counted_at_most (false ∷ bits) = let i = counted_at_most bits in let e = sum_by-cons counted false bits in omega arith

-- at most so many are counted as stand before the others
pub few_counted : (bits : List Bool) (n : ℕ) → ((k : ℕ) → n ≤ k → get_or bits k false ≡ false) → sum_by counted bits ≤ n
few_counted [] n h = omega arith
few_counted (b ∷ bits) zero h = let e = sum_by-cons counted b bits in let f = ap counted (h 0 (omega arith)) in let i = few_counted bits zero (λ k l. h (suc k) (omega arith)) in omega arith
few_counted (b ∷ bits) (suc n) h = let e = sum_by-cons counted b bits in let i = few_counted bits n (λ k l. h (suc k) (omega arith)) in let m = at_most b in omega arith
  where
    at_most : (x : Bool) → counted x ≤ 1
    at_most true = omega arith
    at_most false = omega arith
