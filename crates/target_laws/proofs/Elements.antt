-- Elements of lists.
use Rattle.std.proofs.Common.{◌≡◌, ℕ, zero, suc, ◌+◌, ◌<◌, ◌≤◌, ◌⊎◌, inl, inr, List, [], ◌∷◌, ◌++◌, ◌^◌, All, Some, get_or, set, take, drop, length, refl, sym, ap, ◌∙◌, subst, arith}
use Rattle.std.specs.Prelude.{slice_get}
use Rattle.std.proofs.lemmas.List.Elements.{All-nil, All-cons, All-head, All-tail}
use Rattle.std.proofs.lemmas.Option.{none-some, same_Some}

module _ {X : Type 0} where
  -- what is set is there
  pub get_set : (xs : List X) (i : ℕ) (old new : X) → slice_get xs i ≡ Some old → slice_get (set xs i new) i ≡ Some new
  get_set [] i old new there = absurd (none-some old there)
  get_set (x ∷ xs) zero old new there = refl
  get_set (x ∷ xs) (suc i) old new there = get_set xs i old new there

  -- what holds of all holds of the one that is there
  pub All-there : (P : X → Type 0) (xs : List X) (i : ℕ) (x : X) → slice_get xs i ≡ Some x → All P xs → P x
  All-there P [] i x there all = absurd (none-some x there)
  All-there P (y ∷ xs) zero x there all = subst P (same_Some y x there) (All-head P y xs all)
  All-there P (y ∷ xs) (suc i) x there all = All-there P xs i x there (All-tail P y xs all)

  -- what holds of the first ones,
  pub take-there : (P : X → Type 0) (xs : List X) (count i : ℕ) (x : X) → slice_get xs i ≡ Some x → i < count → All P (take count xs) → P x
  take-there P [] count i x there few all = absurd (none-some x there)
  take-there P (y ∷ xs) zero i x there few all = absurd (omega (arith, few))
  take-there P (y ∷ xs) (suc count) zero x there few all = subst P (same_Some y x there) (All-head P y (take count xs) all)
  take-there P (y ∷ xs) (suc count) (suc i) x there few all = take-there P xs count i x there (omega (arith, few)) (All-tail P y (take count xs) all)

  -- and of the others
  pub drop-there : (P : X → Type 0) (xs : List X) (count i : ℕ) (x : X) → slice_get xs i ≡ Some x → count ≤ i → All P (drop count xs) → P x
  drop-there P xs zero i x there few all = All-there P xs i x there all
  drop-there P [] (suc count) i x there few all = absurd (none-some x there)
  drop-there P (y ∷ xs) (suc count) zero x there few all = absurd (omega (arith, few))
  drop-there P (y ∷ xs) (suc count) (suc i) x there few all = drop-there P xs count i x there (omega (arith, few)) all

  -- an element of a list is at the same index where more follow it
  pub get_first : (xs ys : List X) (index : ℕ) (x : X) → slice_get xs index ≡ Some x → slice_get (xs ++ ys) index ≡ Some x
  get_first [] ys index x is = absurd (none-some x is)
  get_first (y ∷ xs) ys zero x is = is
  get_first (y ∷ xs) ys (suc index) x is = get_first xs ys index x is

  -- the last one is at the index of their number
  pub get_last : (xs : List X) (x : X) → slice_get (xs ++ x ∷ []) (length xs) ≡ Some x
  get_last [] x = refl
  get_last (y ∷ xs) x = get_last xs x

  pub get_after : (xs ys : List X) (k : ℕ) → slice_get (xs ++ ys) (length xs + k) ≡ slice_get ys k
  get_after [] ys k = let same : 0 + k ≡ k = omega arith in ap (slice_get ys) same
  get_after (x ∷ xs) ys k = let same : suc (length xs) + k ≡ suc (length xs + k) = omega arith in ap (slice_get (x ∷ (xs ++ ys))) same ∙ get_after xs ys k

  pub get_within : (xs ys : List X) (k : ℕ) → k < length xs → slice_get (xs ++ ys) k ≡ slice_get xs k
  get_within [] ys k few = absurd (omega (arith, few))
  get_within (x ∷ xs) ys zero few = refl
  get_within (x ∷ xs) ys (suc k) few = get_within xs ys k (omega (arith, few))

  -- a list that has the elements of another from a place on
  pub begins_with : (xs ys : List X) (place : ℕ) → place + length ys ≤ length xs → ((k : ℕ) → k < length ys → slice_get xs (place + k) ≡ slice_get ys k)
      → drop place xs ≡ ys ++ drop (place + length ys) xs
  begins_with xs [] zero within same = refl
  begins_with [] (y ∷ ys) zero within same = absurd (omega (arith, within))
  begins_with (x ∷ xs) (y ∷ ys) zero within same =
      let first : x ≡ y = same_Some x y (same 0 (omega arith)) in
      let later = begins_with xs ys 0 (omega (arith, within))
      (λ k few. let one : 0 + k ≡ k = omega arith in let up : 0 + suc k ≡ suc k = omega arith in ap (slice_get xs) one ∙ sym (ap (slice_get (x ∷ xs)) up) ∙ same (suc k) (omega (arith, few))) in
      let down : 0 + length ys ≡ length ys = omega arith in
      let up : 0 + length (y ∷ ys) ≡ suc (length ys) = omega arith in
      ap (λ (z : X). z ∷ xs) first ∙ ap (λ (zs : List X). y ∷ zs) later
      ∙ ap (λ n. y ∷ (ys ++ drop n xs)) down ∙ sym (ap (λ n. (y ∷ ys) ++ drop n (x ∷ xs)) up)
  begins_with [] ys (suc place) within same = absurd (omega (arith, within))
  begins_with (x ∷ xs) ys (suc place) within same =
      let up : (n : ℕ) → suc place + n ≡ suc (place + n) = λ n. omega arith in
      begins_with xs ys place (omega (arith, within)) (λ k few. sym (ap (slice_get (x ∷ xs)) (up k)) ∙ same k few)
      ∙ sym (ap (λ n. ys ++ drop n (x ∷ xs)) (up (length ys)))

-- one of two numbers is not below the other
pub either_way : (a b : ℕ) → (a < b) ⊎ (b ≤ a)
either_way zero zero = inr (omega arith)
either_way zero (suc b) = inl (omega arith)
either_way (suc a) zero = inr (omega arith)
either_way (suc a) (suc b) = elim (either_way a b) [ inl lt ↦ inl (omega (arith, lt)) | inr le ↦ inr (omega (arith, le)) ]

module _ {X : Type 0} where
  pub get_drop : (xs : List X) (n k : ℕ) → slice_get (drop n xs) k ≡ slice_get xs (n + k)
  get_drop xs zero k = let same : 0 + k ≡ k = omega arith in ap (slice_get xs) (sym same)
  get_drop [] (suc n) k = refl
  get_drop (x ∷ xs) (suc n) k = let same : suc n + k ≡ suc (n + k) = omega arith in get_drop xs n k ∙ ap (slice_get (x ∷ xs)) (sym same)

  pub get_take : (xs : List X) (n k : ℕ) → k < n → slice_get (take n xs) k ≡ slice_get xs k
  get_take xs zero k few = absurd (omega (arith, few))
  get_take [] (suc n) k few = refl
  get_take (x ∷ xs) (suc n) zero few = refl
  get_take (x ∷ xs) (suc n) (suc k) few = get_take xs n k (omega (arith, few))

  -- what holds of the first ones holds of fewer
  pub take_fewer : (P : X → Type 0) (xs : List X) (few more : ℕ) → few ≤ more → All P (take more xs) → All P (take few xs)
  take_fewer P [] zero more le all = All-nil P
  take_fewer P [] (suc few) more le all = All-nil P
  take_fewer P (x ∷ xs) zero more le all = All-nil P
  take_fewer P (x ∷ xs) (suc few) zero le all = absurd (omega (arith, le))
  take_fewer P (x ∷ xs) (suc few) (suc more) le all =
      All-cons P x (take few xs) (All-head P x (take more xs) all) (take_fewer P xs few more (omega (arith, le)) (All-tail P x (take more xs) all))

-- each is a byte of a list of bytes
pub drop_bytes : (xs : List ℕ) (n : ℕ) → ((i : ℕ) → get_or xs i 0 < 2 ^ 8) → (i : ℕ) → get_or (drop n xs) i 0 < 2 ^ 8
drop_bytes xs zero all i = all i
drop_bytes [] (suc n) all i = all i
drop_bytes (x ∷ xs) (suc n) all i = drop_bytes xs n (λ j. all (suc j)) i

pub take_bytes : (xs : List ℕ) (n : ℕ) → ((i : ℕ) → get_or xs i 0 < 2 ^ 8) → (i : ℕ) → get_or (take n xs) i 0 < 2 ^ 8
take_bytes xs zero all zero = omega arith
take_bytes xs zero all (suc i) = omega arith
take_bytes [] (suc n) all i = all i
take_bytes (x ∷ xs) (suc n) all zero = all 0
take_bytes (x ∷ xs) (suc n) all (suc i) = take_bytes xs n (λ j. all (suc j)) i

-- the first elements are those that a list begins with
pub take_front : (xs ys : List ℕ) → take (length xs) (xs ++ ys) ≡ xs
take_front [] ys = refl
take_front (x ∷ xs) ys = ap (λ (zs : List ℕ). x ∷ zs) (take_front xs ys)
