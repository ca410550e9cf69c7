-- Elements and pieces of lists.
use Rattle.std.proofs.Common.{◌≡◌, ℕ, zero, suc, ◌+◌, ◌-◌, ◌<◌, ◌≤◌, List, [], ◌∷◌, ◌++◌, Some, drop, take, length, set, refl, sym, ap, ◌∙◌, subst, All, arith, length-drop}
use Rattle.std.specs.Prelude.{slice_get, slice_range}
use Rattle.std.proofs.Math.Seq.{take-append_seam}
use Rattle.std.proofs.lemmas.List.{drop_at, length-take}
use Rattle.std.proofs.lemmas.List.Elements.{All-head, All-tail}
use Rattle.std.proofs.lemmas.Option.{none-some, same_Some}
use Rattle.elf_file.specs.Places.{PieceAt}

module _ {X : Type 0} where
  -- what is set is there
  pub get_set : (xs : List X) (i : ℕ) (old new : X) → slice_get xs i ≡ Some old → slice_get (set xs i new) i ≡ Some new
  get_set [] i old new there = absurd (none-some old there)
  get_set (x ∷ xs) zero old new there = refl
  get_set (x ∷ xs) (suc i) old new there = get_set xs i old new there

  -- what holds of all holds of the one that is there
  pub All-there : (P : X → Type 0) (xs : List X) (i : ℕ) (x : X) → slice_get xs i ≡ Some x → All P xs → P x
  All-there P [] i x there all = absurd (none-some x there)
  All-there P (y ∷ xs) zero x there all = subst P (same_Some y x there) (All-head P y xs all)
  All-there P (y ∷ xs) (suc i) x there all = All-there P xs i x there (All-tail P y xs all)

  -- an element of a list is at the same index where more follow it
  pub get_first : (xs ys : List X) (index : ℕ) (x : X) → slice_get xs index ≡ Some x → slice_get (xs ++ ys) index ≡ Some x
  get_first [] ys index x is = absurd (none-some x is)
  get_first (y ∷ xs) ys zero x is = is
  get_first (y ∷ xs) ys (suc index) x is = get_first xs ys index x is

  -- the last one is at the index of their number
  pub get_last : (xs : List X) (x : X) → slice_get (xs ++ x ∷ []) (length xs) ≡ Some x
  get_last [] x = refl
  get_last (y ∷ xs) x = get_last xs x

  pub get_after : (xs ys : List X) (k : ℕ) → slice_get (xs ++ ys) (length xs + k) ≡ slice_get ys k
  get_after [] ys k = let same : 0 + k ≡ k = omega arith in ap (slice_get ys) same
  get_after (x ∷ xs) ys k = let same : suc (length xs) + k ≡ suc (length xs + k) = omega arith in ap (slice_get (x ∷ (xs ++ ys))) same ∙ get_after xs ys k

  pub get_within : (xs ys : List X) (k : ℕ) → k < length xs → slice_get (xs ++ ys) k ≡ slice_get xs k
  get_within [] ys k few = absurd (omega (arith, few))
  get_within (x ∷ xs) ys zero few = refl
  get_within (x ∷ xs) ys (suc k) few = get_within xs ys k (omega (arith, few))

  pub get_drop : (xs : List X) (n k : ℕ) → slice_get (drop n xs) k ≡ slice_get xs (n + k)
  get_drop xs zero k = let same : 0 + k ≡ k = omega arith in ap (slice_get xs) (sym same)
  get_drop [] (suc n) k = refl
  get_drop (x ∷ xs) (suc n) k = let same : suc n + k ≡ suc (n + k) = omega arith in get_drop xs n k ∙ ap (slice_get (x ∷ xs)) (sym same)

  pub get_take : (xs : List X) (n k : ℕ) → k < n → slice_get (take n xs) k ≡ slice_get xs k
  get_take xs zero k few = absurd (omega (arith, few))
  get_take [] (suc n) k few = refl
  get_take (x ∷ xs) (suc n) zero few = refl
  get_take (x ∷ xs) (suc n) (suc k) few = get_take xs n k (omega (arith, few))

  -- the first ones, where more follow them
  pub take_first : (xs ys : List X) → take (length xs) (xs ++ ys) ≡ xs
  take_first xs ys = take-append_seam xs ys

  pub drop_first : (xs ys : List X) → drop (length xs) (xs ++ ys) ≡ ys
  drop_first xs ys = drop_at xs ys (length xs) refl

  -- what is dropped is a piece and what is dropped after it
  pub drop_two : (xs : List X) (n : ℕ) → xs ≡ take n xs ++ drop n xs
  drop_two xs zero = refl
  drop_two [] (suc n) = refl
  drop_two (x ∷ xs) (suc n) = ap (λ (l : List X). x ∷ l) (drop_two xs n)

  -- one element as a piece
  pub one_from : (xs : List X) (n : ℕ) (x : X) → slice_get xs n ≡ Some x → take 1 (drop n xs) ≡ x ∷ []
  one_from [] n x is = absurd (none-some x is)
  one_from (y ∷ xs) zero x is = ap (λ (z : X). z ∷ []) (same_Some y x is)
  one_from (y ∷ xs) (suc n) x is = one_from xs n x is

  pub one_piece : (xs : List X) (n : ℕ) (x : X) → slice_get xs n ≡ Some x → slice_range xs n (n + 1) ≡ x ∷ []
  one_piece xs n x is =
      let one : n + 1 - n ≡ 1 = omega arith in
      ap (λ k. take k (drop n xs)) one ∙ one_from xs n x is

-- a piece of one byte is the byte at its place
pub piece_get : (bytes : List ℕ) (at byte : ℕ) → PieceAt bytes at (byte ∷ []) → slice_get bytes at ≡ Some byte
piece_get bytes at byte piece =
    let place : at ≡ length piece.front + 0 = let long = piece.long in omega (arith, long) in
    ap (λ (xs : List ℕ). slice_get xs at) piece.whole
    ∙ (ap (slice_get (piece.front ++ (byte ∷ piece.rest))) place ∙ get_after piece.front (byte ∷ piece.rest) 0)

-- lists of as many elements with the same ones are one
same_list : (xs ys : List ℕ) → length xs ≡ length ys → ((k : ℕ) → k < length xs → slice_get xs k ≡ slice_get ys k) → xs ≡ ys
same_list [] [] long each = refl
same_list [] (y ∷ ys) long each = absurd (omega (arith, long))
same_list (x ∷ xs) [] long each = absurd (omega (arith, long))
same_list (x ∷ xs) (y ∷ ys) long each =
    let first = same_Some x y (each 0 (omega arith)) in
    let rest = same_list xs ys (omega (arith, long)) (λ k few. each (suc k) (omega (arith, few))) in
    ap (λ (z : ℕ). z ∷ xs) first ∙ ap (λ (zs : List ℕ). y ∷ zs) rest

drop_none : (n : ℕ) → drop {A = ℕ} n [] ≡ []
drop_none zero = refl
drop_none (suc n) = refl

drop_more : (xs : List ℕ) (n m : ℕ) → drop m (drop n xs) ≡ drop (n + m) xs
drop_more [] n m = ap (λ (l : List ℕ). drop m l) (drop_none n) ∙ (drop_none m ∙ sym (drop_none (n + m)))
drop_more (x ∷ xs) zero m = let same : 0 + m ≡ m = omega arith in ap (λ k. drop k (x ∷ xs)) (sym same)
drop_more (x ∷ xs) (suc n) m = let same : suc n + m ≡ suc (n + m) = omega arith in drop_more xs n m ∙ ap (λ k. drop k (x ∷ xs)) (sym same)

-- a piece stands where each byte of it does
pub piece_stands : (code piece : List ℕ) (place : ℕ) → place + length piece ≤ length code → ((k : ℕ) → k < length piece → slice_get code (place + k) ≡ slice_get piece k)
    → drop place code ≡ piece ++ drop (place + length piece) code
piece_stands code piece place within each =
    let there = drop place code in
    let rest = length-drop place code in
    let long : length (take (length piece) there) ≡ length piece = length-take (length piece) there ∙ omega (arith, rest, within) in
    let same = same_list (take (length piece) there) piece long
    (λ k few. get_take there (length piece) k (omega (arith, few, long)) ∙ get_drop code place k ∙ each k (omega (arith, few, long))) in
    drop_two there (length piece) ∙ ap (λ (xs : List ℕ). xs ++ drop (length piece) there) same
    ∙ ap (λ (xs : List ℕ). piece ++ xs) (drop_more code place (length piece))
