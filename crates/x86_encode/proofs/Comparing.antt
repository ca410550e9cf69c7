-- Comparing bytes from the front.
use Rattle.std.proofs.Common.{◌≡◌, ◌<◌, ◌≤◌, ◌+◌, ◌==◌, ◌&&◌, ◌||◌, ◌∷◌, Bool, List, [], arith, drop, eq-eqb, false, get_or, inl, inr, length, nat_lt, refl, suc, true, zero, ℕ}
use Rattle.std.proofs.lemmas.Bool.{ne_eqb, ltb-true, cases_Bool}
use Rattle.x86_encode.specs.Exchanges.{at_most}
use Rattle.x86_encode.proofs.FilledBytes.{drop_all}

lt_same : (y : ℕ) → nat_lt y y ≡ false
lt_same y = elim (cases_Bool (nat_lt y y)) [
  | inl t ↦ (let l = ltb-true y y t in absurd (omega arith))
  | inr f ↦ f
]

pub same_next : (xs ys : List ℕ) (i k d e : ℕ) → k ≡ i + 1 → i < length xs → i < length ys → get_or xs i d ≡ get_or ys i e → at_most (drop i xs) (drop i ys) ≡ at_most (drop k xs) (drop k ys)
same_next [] ys i k d e s l m h = absurd (omega arith)
same_next (x ∷ xs) [] i k d e s l m h = absurd (omega arith)
same_next (x ∷ xs) (y ∷ ys) i zero d e s l m h = absurd (omega arith)
same_next (x ∷ xs) (y ∷ ys) zero (suc k) d e s l m h = first k (omega arith) h
  where
    first : (k : ℕ) → k ≡ 0 → x ≡ y → (nat_lt x y || ((x == y) && at_most xs ys)) ≡ at_most (drop k xs) (drop k ys)
    first zero z h = rw (h, lt_same y, eq-eqb y y refl) refl
    first (suc k) z h = absurd (omega arith)
same_next (x ∷ xs) (y ∷ ys) (suc i) (suc k) d e s l m h = same_next xs ys i k d e (omega arith) (omega arith) (omega arith) h

none_left : (xs : List ℕ) (i : ℕ) → i < length xs → at_most (drop i xs) [] ≡ false
none_left [] i l = absurd (omega arith)
none_left (x ∷ xs) zero l = refl
none_left (x ∷ xs) (suc i) l = none_left xs i (omega arith)

pub other_ends : (xs ys : List ℕ) (i : ℕ) → i < length xs → length ys ≤ i → at_most (drop i xs) (drop i ys) ≡ false
other_ends xs ys i l m = rw (drop_all ys i m) (none_left xs i l)

pub differ : (xs ys : List ℕ) (i d e : ℕ) → i < length xs → i < length ys → (get_or xs i d ≡ get_or ys i e → ⊥) → at_most (drop i xs) (drop i ys) ≡ nat_lt (get_or xs i d) (get_or ys i e)
differ [] ys i d e l m n = absurd (omega arith)
differ (x ∷ xs) [] i d e l m n = absurd (omega arith)
differ (x ∷ xs) (y ∷ ys) zero d e l m n = rw (ne_eqb x y n) (or_no (nat_lt x y))
  where
    or_no : (b : Bool) → (b || false) ≡ b
    or_no true = refl
    or_no false = refl
differ (x ∷ xs) (y ∷ ys) (suc i) d e l m n = differ xs ys i d e (omega arith) (omega arith) n

pub one_ends : (xs ys : List ℕ) (i : ℕ) → length xs ≤ i → at_most (drop i xs) (drop i ys) ≡ true
one_ends xs ys i l = rw (drop_all xs i l) refl
