-- What stands under numbers once another is put under one.
use Rattle.std.proofs.Common.{◌≡◌, ◌≢◌, ℕ, zero, suc, ◌+◌, ◌-◌, ◌<◌, ◌≤◌, length, List, [], ◌∷◌, ◌++◌, Option, None, Some, replicate, slice_get, slice_set, slice_index_or, refl, sym, ◌∙◌, ap, arith}
use Rattle.std.proofs.lemmas.List.{length-append, length-replicate}
use Rattle.std.proofs.lemmas.Option.{slice_get-get_or}
use Rattle.std.specs.Option.{option_and_then}
use Rattle.line_directives.specs.Numbered.{under, with_room, put_under}

set_here : {A : Type 0} (i : ℕ) (items : List A) (item : A) → i < length items → slice_get (slice_set items i item) i ≡ Some item
set_here i [] item fits = absurd (let none : ⊥ = omega (arith, fits) in none)
set_here zero (first ∷ items) item fits = refl
set_here (suc i) (first ∷ items) item fits = set_here i items item (omega (arith, fits))

set_other : {A : Type 0} (i k : ℕ) (items : List A) (item : A) → k ≢ i → slice_get (slice_set items i item) k ≡ slice_get items k
set_other i k [] item other = refl
set_other zero zero (first ∷ items) item other = absurd (other refl)
set_other zero (suc k) (first ∷ items) item other = refl
set_other (suc i) zero (first ∷ items) item other = refl
set_other (suc i) (suc k) (first ∷ items) item other = set_other i k items item (λ same. other (ap suc same))

none_under : {A : Type 0} (k n : ℕ) → under {A = A} k (replicate n None) ≡ None
none_under k zero = refl
none_under zero (suc n) = refl
none_under (suc k) (suc n) = none_under k n

under_room : {A : Type 0} (k n : ℕ) (items : List (Option A)) → under k (items ++ replicate n None) ≡ under k items
under_room k n [] = none_under k n
under_room zero n (item ∷ items) = refl
under_room (suc k) n (item ∷ items) = under_room k n items

in_room : {A : Type 0} (number : ℕ) (items : List (Option A)) → number < length (with_room (number + 1) items)
in_room {A} number items =
    let nones : List (Option A) = replicate (number + 1 - length items) None in
    let all : length (items ++ nones) ≡ length items + length nones = length-append items nones in
    let more : length nones ≡ number + 1 - length items = length-replicate (number + 1 - length items) None in
    omega (arith, all, more)

pub put_here : {A : Type 0} (number : ℕ) (item : A) (items : List (Option A)) → under number (put_under number item items) ≡ Some item
put_here number item items =
    ap (option_and_then (λ item. item)) (set_here number (with_room (number + 1) items) (Some item) (in_room number items))

pub put_other : {A : Type 0} (number other : ℕ) (item : A) (items : List (Option A)) → other ≢ number → under other (put_under number item items) ≡ under other items
put_other number other item items apart =
    ap (option_and_then (λ item. item)) (set_other number other (with_room (number + 1) items) (Some item) apart)
    ∙ under_room other (number + 1 - length items) items

-- what is at a number's place in the room is what stands under it
pub at_place : {A : Type 0} (number : ℕ) (items : List (Option A)) (other : Option A) → slice_index_or (with_room (number + 1) items) number other ≡ under number items
at_place number items other =
    let found : slice_get (with_room (number + 1) items) number ≡ Some (slice_index_or (with_room (number + 1) items) number other) =
    slice_get-get_or (with_room (number + 1) items) number other (in_room number items) in
    sym (ap (option_and_then (λ item. item)) found) ∙ under_room number (number + 1 - length items) items
