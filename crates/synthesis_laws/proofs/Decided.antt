-- What holds or does not, and the first number of which something holds.
use Rattle.std.proofs.Common.{◌≡◌, ◌<◌, ◌≤◌, ◌⊎◌, inl, inr, ℕ, zero, suc, Bool, true, false, Option, Some, None, refl, subst, arith}
use Rattle.std.proofs.lemmas.Bool.{cases_eq, cases_lt}

-- it holds or not
abbrev pub Decided : Type 0 → Type 0
Decided P = P ⊎ (P → ⊥)

-- a test is met or not
pub is_met : (b : Bool) → Decided (b ≡ true)
is_met true = inl refl
is_met false = inr (λ e. cc)

-- a test fails or not
pub is_failed : (b : Bool) → Decided (b ≡ false)
is_failed false = inl refl
is_failed true = inr (λ e. cc)

-- a number is there or not
pub is_there : (o : Option ℕ) (k : ℕ) → Decided (o ≡ Some k)
is_there None k = inr (λ e. absurd (let none : ⊥ = cc in none))
is_there (Some d) k = by (cases_eq d k)
  where
    by : (d ≡ k) ⊎ ((d ≡ k) → ⊥) → Decided (Some d ≡ Some k)
    by (inl same) = inl cc
    by (inr other) = inr (λ e. other cc)

-- both hold or not
pub both : {P Q : Type 0} → Decided P → Decided Q → Decided (P × Q)
both (inl p) (inl q) = inl (p, q)
both (inl p) (inr never) = inr (λ x. never x.1)
both (inr never) q = inr (λ x. never x.0)

-- one of two holds or neither
pub either : {P Q : Type 0} → Decided P → Decided Q → Decided (P ⊎ Q)
either (inl p) q = inl (inl p)
either (inr never) (inl q) = inl (inr q)
either {P} {Q} (inr never) (inr nor) = inr neither
  where
    neither : P ⊎ Q → ⊥
    neither (inl p) = never p
    neither (inr q) = nor q

-- what does not hold is decided too
pub neither : {P : Type 0} → Decided P → Decided (P → ⊥)
neither (inl p) = inr (λ never. never p)
neither (inr never) = inl never

module _ (P : ℕ → Type 0) (each : (n : ℕ) → Decided (P n)) where
  -- the first number below another of which it holds
  abbrev pub First : ℕ → Type 0
  First below = (n : ℕ) × (n < below) × P n × ((m : ℕ) → m < n → P m → ⊥)

  -- there is one, or it holds of none
  pub first_below : (below : ℕ) → First below ⊎ ((n : ℕ) → n < below → P n → ⊥)
  first_below zero = inr (λ n low p. absurd (let none : ⊥ = omega arith in none))
  first_below (suc below) = by (first_below below) (each below)
    where
      by : First below ⊎ ((n : ℕ) → n < below → P n → ⊥) → Decided (P below) → First (suc below) ⊎ ((n : ℕ) → n < suc below → P n → ⊥)
      by (inl found) here = inl (found.0, let low : found.0 < below = found.1 in omega arith, found.2, found.3)
      by (inr none) (inl here) = inl (below, omega arith, here, none)
      by (inr none) (inr never) = inr (λ n low p. last n low p (cases_lt n below))
        where
          last : (n : ℕ) → n < suc below → P n → (n < below) ⊎ (below ≤ n) → ⊥
          last n low p (inl less) = none n less p
          last n low p (inr more) = let same : n ≡ below = omega arith in never (subst P same p)
