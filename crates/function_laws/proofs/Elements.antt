-- Elements of lists by their numbers.
use Rattle.std.proofs.Common.{◌≡◌, ◌<◌, ℕ, zero, suc, length, arith, Bool, List, [], ◌∷◌, ◌++◌, All, None, Some, set, refl, subst}
use Rattle.std.specs.Prelude.{slice_get, position}
use Rattle.std.proofs.lemmas.Option.{none-some, same_Some}
use Rattle.std.proofs.lemmas.List.Quantifiers.{position-Some}
use Rattle.std.proofs.lemmas.List.Elements.{All-head, All-tail}

module _ {X : Type 0} where
  -- what holds of all holds of the one that is there
  pub All-there : (P : X → Type 0) (xs : List X) (i : ℕ) (x : X) → slice_get xs i ≡ Some x → All P xs → P x
  All-there P [] i x there all = absurd (none-some x there)
  All-there P (y ∷ xs) zero x there all = subst P (same_Some y x there) (All-head P y xs all)
  All-there P (y ∷ xs) (suc i) x there all = All-there P xs i x there (All-tail P y xs all)

  -- each number below the length is of an element
  pub number_there : (xs : List X) (i : ℕ) → i < length xs → (x : X) × (slice_get xs i ≡ Some x)
  number_there [] i few = absurd (omega (arith, few))
  number_there (x ∷ xs) zero few = (x, refl)
  number_there (x ∷ xs) (suc i) few = number_there xs i (omega (arith, few))

  -- after the last one there is none
  pub after_last : (xs : List X) → slice_get xs (length xs) ≡ None
  after_last [] = refl
  after_last (x ∷ xs) = after_last xs

  -- what is found has a place
  pub found_there : (p : X → Bool) (xs : List X) (i : ℕ) → position p xs ≡ Some i → (x : X) × (slice_get xs i ≡ Some x)
  found_there p [] i is = absurd (none-some i is)
  found_there p (x ∷ xs) i is = number_there (x ∷ xs) i ((position-Some p (x ∷ xs) i x is).0)

  -- what is set is there
  pub get_set : (xs : List X) (i : ℕ) (old new : X) → slice_get xs i ≡ Some old → slice_get (set xs i new) i ≡ Some new
  get_set [] i old new there = absurd (none-some old there)
  get_set (x ∷ xs) zero old new there = refl
  get_set (x ∷ xs) (suc i) old new there = get_set xs i old new there

  -- an element of a list is at the same index where more follow it
  pub get_first : (xs ys : List X) (index : ℕ) (x : X) → slice_get xs index ≡ Some x → slice_get (xs ++ ys) index ≡ Some x
  get_first [] ys index x is = absurd (none-some x is)
  get_first (y ∷ xs) ys zero x is = is
  get_first (y ∷ xs) ys (suc index) x is = get_first xs ys index x is

  -- the last one is at the index of their number
  pub get_last : (xs : List X) (x : X) → slice_get (xs ++ x ∷ []) (length xs) ≡ Some x
  get_last [] x = refl
  get_last (y ∷ xs) x = get_last xs x
