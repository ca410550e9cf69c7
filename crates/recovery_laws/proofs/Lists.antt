-- Facts of lists, and of answers.
use Rattle.std.proofs.Common.{◌≡◌, ℕ, zero, suc, ◌⊎◌, inl, inr, List, [], ◌∷◌, ◌++◌, All, Result, Some, Ok, Err, set, refl, ap, subst}
use Rattle.std.specs.Prelude.{slice_get}
use Rattle.std.specs.List.{AllZip}
use Rattle.std.proofs.lemmas.List.Elements.{All-get_or}
use Rattle.std.proofs.lemmas.Option.{none-some, same_Some, slice_get_within, get_or_from_slice_get}

module _ {A E : Type 0} where
  -- one answer is one value
  pub same_Ok : (x y : A) → ◌≡◌ {A = Result A E} (Ok x) (Ok y) → x ≡ y
  same_Ok x y is = ap (λ (r : Result A E). elim r [ Ok made ↦ made | Err fault ↦ x ]) is

module _ {X : Type 0} where
  -- what holds of all holds of the one that is there
  pub all_there : (P : X → Type 0) (xs : List X) (index : ℕ) (x : X) → slice_get xs index ≡ Some x → All P xs → P x
  all_there P xs index x there all = subst P (get_or_from_slice_get xs index x x there) (All-get_or P xs index x (slice_get_within xs index x there) all)

  -- what is there in a list where one was set is that one, or was there
  pub set_cases : (xs : List X) (i : ℕ) (new : X) (j : ℕ) (y : X) → slice_get (set xs i new) j ≡ Some y → ((i ≡ j) × (new ≡ y)) ⊎ (slice_get xs j ≡ Some y)
  set_cases [] i new j y there = absurd (none-some y there)
  set_cases (x ∷ xs) zero new zero y there = inl (refl, same_Some new y there)
  set_cases (x ∷ xs) zero new (suc j) y there = inr there
  set_cases (x ∷ xs) (suc i) new zero y there = inr there
  set_cases (x ∷ xs) (suc i) new (suc j) y there = elim (set_cases xs i new j y there) [ inl both ↦ inl (ap suc both.0, both.1) | inr was ↦ inr was ]

  -- what is there behind one more is that one, or was there
  pub last_or_before : (xs : List X) (x : X) (n : ℕ) (y : X) → slice_get (xs ++ x ∷ []) n ≡ Some y → (x ≡ y) ⊎ (slice_get xs n ≡ Some y)
  last_or_before [] x zero y there = inl (same_Some x y there)
  last_or_before [] x (suc n) y there = absurd (none-some y there)
  last_or_before (z ∷ xs) x zero y there = inr there
  last_or_before (z ∷ xs) x (suc n) y there = last_or_before xs x n y there

module _ {X Y : Type 0} (P : X → Y → Type 0) where
  -- what holds of all holds of the two of a number
  pub zip_there : (xs : List X) (ys : List Y) → AllZip P xs ys → (n : ℕ) (x : X) (y : Y) → slice_get xs n ≡ Some x → slice_get ys n ≡ Some y → P x y
  zip_there [] ys all n x y one other = absurd (none-some x one)
  zip_there (a ∷ xs) [] all n x y one other = absurd (none-some y other)
  zip_there (a ∷ xs) (b ∷ ys) all zero x y one other = subst (λ (c : X). P c y) (same_Some a x one) (subst (λ (c : Y). P a c) (same_Some b y other) all.0)
  zip_there (a ∷ xs) (b ∷ ys) all (suc n) x y one other = zip_there xs ys all.1 n x y one other
