-- What stands in the object beside the fields of an instruction is loaded as it is.
use Rattle.std.proofs.Common.{◌≡◌, ℕ, zero, suc, ◌+◌, ◌-◌, ◌<◌, ◌≤◌, inl, inr, List, [], ◌∷◌, ◌++◌, drop, take, length, refl, sym, ap, ◌∙◌, arith, length-append, length-drop}
use Rattle.std.specs.Prelude.{slice_get, slice_range}
use Rattle.std.proofs.lemmas.List.{length-take}
use Rattle.asm_frags.specs.Fields.{width}
use Rattle.asm_place.specs.CodePlaces.{FieldInCode, AreApart, with_held}
use Rattle.loaded_laws.specs.Codes.{IsOutside, LoadedBeside}

get_after : (xs ys : List ℕ) (k : ℕ) → slice_get (xs ++ ys) (length xs + k) ≡ slice_get ys k
get_after [] ys k = let same : 0 + k ≡ k = omega arith in ap (slice_get ys) same
get_after (x ∷ xs) ys k = let same : suc (length xs) + k ≡ suc (length xs + k) = omega arith in ap (slice_get (x ∷ (xs ++ ys))) same ∙ get_after xs ys k

get_within : (xs ys : List ℕ) (k : ℕ) → k < length xs → slice_get (xs ++ ys) k ≡ slice_get xs k
get_within [] ys k few = absurd (omega (arith, few))
get_within (x ∷ xs) ys zero few = refl
get_within (x ∷ xs) ys (suc k) few = get_within xs ys k (omega (arith, few))

get_drop : (xs : List ℕ) (n k : ℕ) → slice_get (drop n xs) k ≡ slice_get xs (n + k)
get_drop xs zero k = let same : 0 + k ≡ k = omega arith in ap (slice_get xs) (sym same)
get_drop [] (suc n) k = refl
get_drop (x ∷ xs) (suc n) k = let same : suc n + k ≡ suc (n + k) = omega arith in get_drop xs n k ∙ ap (slice_get (x ∷ xs)) (sym same)

get_take : (xs : List ℕ) (n k : ℕ) → k < n → slice_get (take n xs) k ≡ slice_get xs k
get_take xs zero k few = absurd (omega (arith, few))
get_take [] (suc n) k few = refl
get_take (x ∷ xs) (suc n) zero few = refl
get_take (x ∷ xs) (suc n) (suc k) few = get_take xs n k (omega (arith, few))

slice_long : (bytes : List ℕ) (from to : ℕ) → from ≤ to → to ≤ length bytes → length (slice_range bytes from to) ≡ to - from
slice_long bytes from to up within = length-take (to - from) (drop from bytes) ∙ (let long = length-drop from bytes in omega arith)

-- fields that are apart begin within the bytes
apart_inside : (from end : ℕ) (fields : List FieldInCode) → AreApart from end fields → from ≤ end
apart_inside from end [] apart = apart
apart_inside from end (field ∷ fields) apart = let later = apart_inside (field.at + width field.size) end fields apart.1 in omega (arith, later, apart.0)

-- what is apart from a place on is so from one before it
apart_before : (from earlier end : ℕ) (fields : List FieldInCode) → earlier ≤ from → AreApart from end fields → AreApart earlier end fields
apart_before from earlier end [] less apart = omega (arith, less, apart)
apart_before from earlier end (field ∷ fields) less apart = (omega (arith, less, apart.0), apart.1)

module _ (held : FieldInCode → List ℕ) (long : (field : FieldInCode) → length (held field) ≡ width field.size) (bytes : List ℕ) where
  -- a byte beside the fields
  get_held : (from : ℕ) (fields : List FieldInCode) (k : ℕ) → AreApart from (length bytes) fields → from ≤ k → k < length bytes → IsOutside k fields
      → slice_get (with_held held bytes from fields) (k - from) ≡ slice_get bytes k
  get_held from [] k apart up few out = let same : from + (k - from) ≡ k = omega (arith, up) in get_drop bytes from (k - from) ∙ ap (slice_get bytes) same
  get_held from (field ∷ fields) k apart up few (inl low, out) =
      let inside = apart_inside (field.at + width field.size) (length bytes) fields apart.1 in
      let slice = slice_range bytes from field.at in
      let count : length slice ≡ field.at - from = slice_long bytes from field.at apart.0 (omega (arith, inside)) in
      let same : from + (k - from) ≡ k = omega (arith, up) in
      get_within slice _ (k - from) (omega (arith, low, up, count)) ∙ get_take (drop from bytes) (field.at - from) (k - from) (omega (arith, low, up))
      ∙ get_drop bytes from (k - from) ∙ ap (slice_get bytes) same
  get_held from (field ∷ fields) k apart up few (inr high, out) =
      let next = field.at + width field.size in
      let inside = apart_inside next (length bytes) fields apart.1 in
      let slice = slice_range bytes from field.at in
      let count : length slice ≡ field.at - from = slice_long bytes from field.at apart.0 (omega (arith, inside)) in
      let value = long field in
      let first : k - from ≡ length slice + (k - field.at) = omega (arith, high, count, apart.0) in
      let second : k - field.at ≡ length (held field) + (k - next) = omega (arith, high, value) in
      let tail = with_held held bytes next fields in
      ap (slice_get (slice ++ (held field ++ tail))) first ∙ get_after slice (held field ++ tail) (k - field.at)
      ∙ ap (slice_get (held field ++ tail)) second ∙ get_after (held field) tail (k - next)
      ∙ get_held next fields k apart.1 high few out

  held_long : (from : ℕ) (fields : List FieldInCode) → AreApart from (length bytes) fields → from + length (with_held held bytes from fields) ≡ length bytes
  held_long from [] apart = let rest = length-drop from bytes in omega (arith, rest, apart)
  held_long from (field ∷ fields) apart =
      let next = field.at + width field.size in
      let inside = apart_inside next (length bytes) fields apart.1 in
      let slice = slice_range bytes from field.at in
      let count : length slice ≡ field.at - from = slice_long bytes from field.at apart.0 (omega (arith, inside)) in
      let value = long field in
      let tail = with_held held bytes next fields in
      let one = length-append slice (held field ++ tail) in
      let two = length-append (held field) tail in
      let later = held_long next fields apart.1 in
      omega (arith, count, value, one, two, later, apart.0)

pub loaded_beside : LoadedBeside
loaded_beside object begins size relocations code bytes place fields held loaded apart long piece within beside =
    let all = with_held held bytes 0 fields in
    let first = apart_before 1 0 (length bytes) fields (omega arith) apart in
    let count = held_long held long bytes 0 fields first in
    let whole = loaded.long in
    record {
      within = omega (arith, whole, within);
      same = λ k few out.
          let none : k - 0 ≡ k = omega arith in
          let at : begins + (place + k) ≡ length piece.front + k = let front = piece.long in omega (arith, front) in
          loaded.same (place + k) (omega (arith, few, within)) (beside k few out)
          ∙ ap (λ (xs : List ℕ). slice_get xs (begins + (place + k))) piece.whole ∙ ap (slice_get (piece.front ++ (all ++ piece.rest))) at
          ∙ get_after piece.front (all ++ piece.rest) k ∙ get_within all piece.rest k (omega (arith, few, count))
          ∙ ap (slice_get all) (sym none) ∙ get_held held long bytes 0 fields k first (omega arith) few out;
    }
