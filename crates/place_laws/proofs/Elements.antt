-- Elements of lists, and steps that answer.
use Rattle.std.proofs.Common.{◌≡◌, ◌≢◌, ℕ, zero, suc, List, [], ◌∷◌, ◌++◌, Some, Result, Ok, Err, set, length, refl, ap, subst, All}
use Rattle.std.specs.Prelude.{slice_get}
use Rattle.std.proofs.lemmas.List.Elements.{All-head, All-tail}
use Rattle.std.proofs.lemmas.Option.{none-some, same_Some}
use Rattle.asm_base.specs.Refusals.{◌>>=◌}

module _ {X : Type 0} where
  -- what is set is there
  pub get_set : (xs : List X) (i : ℕ) (old new : X) → slice_get xs i ≡ Some old → slice_get (set xs i new) i ≡ Some new
  get_set [] i old new there = absurd (none-some old there)
  get_set (x ∷ xs) zero old new there = refl
  get_set (x ∷ xs) (suc i) old new there = get_set xs i old new there

  -- and all else is as it was
  pub get_set_other : (xs : List X) (i j : ℕ) (new : X) → j ≢ i → slice_get (set xs i new) j ≡ slice_get xs j
  get_set_other [] i j new apart = refl
  get_set_other (x ∷ xs) zero zero new apart = absurd (apart refl)
  get_set_other (x ∷ xs) zero (suc j) new apart = refl
  get_set_other (x ∷ xs) (suc i) zero new apart = refl
  get_set_other (x ∷ xs) (suc i) (suc j) new apart = get_set_other xs i j new (λ same. apart (ap suc same))

  -- what holds of all holds of the one that is there
  pub All-there : (P : X → Type 0) (xs : List X) (i : ℕ) (x : X) → slice_get xs i ≡ Some x → All P xs → P x
  All-there P [] i x there all = absurd (none-some x there)
  All-there P (y ∷ xs) zero x there all = subst P (same_Some y x there) (All-head P y xs all)
  All-there P (y ∷ xs) (suc i) x there all = All-there P xs i x there (All-tail P y xs all)

  -- an element of a list is at the same index where more follow it
  pub get_first : (xs ys : List X) (index : ℕ) (x : X) → slice_get xs index ≡ Some x → slice_get (xs ++ ys) index ≡ Some x
  get_first [] ys index x is = absurd (none-some x is)
  get_first (y ∷ xs) ys zero x is = is
  get_first (y ∷ xs) ys (suc index) x is = get_first xs ys index x is

  -- the last one is at the index of their number
  pub get_last : (xs : List X) (x : X) → slice_get (xs ++ x ∷ []) (length xs) ≡ Some x
  get_last [] x = refl
  get_last (y ∷ xs) x = get_last xs x

module _ {A E : Type 0} where
  pub err-ok : {C : Type 0} (fault : E) (x : A) → ◌≡◌ {A = Result A E} (Err fault) (Ok x) → C
  err-ok fault x is = absurd (cc)

  pub same_Ok : (x y : A) → ◌≡◌ {A = Result A E} (Ok x) (Ok y) → x ≡ y
  same_Ok x y is = ap (λ (r : Result A E). elim r [ Ok made ↦ made | Err fault ↦ x ]) is

module _ {A B E C : Type 0} where
  -- two steps that answer: the first does, and so does the second from there
  pub both_ok : (r : Result A E) (f : A → Result B E) (y : B) → (r >>= f) ≡ Ok y → ((x : A) → r ≡ Ok x → f x ≡ Ok y → C) → C
  both_ok (Ok x) f y is go = go x refl is
  both_ok (Err fault) f y is go = err-ok fault y is
