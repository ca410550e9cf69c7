-- The bytes of an instruction beside its fields, which have zeros.
use Rattle.std.proofs.Common.{◌≡◌, ℕ, ◌+◌, ◌-◌, ◌<◌, ◌≤◌, inl, inr, List, [], ◌∷◌, ◌++◌, length, drop, sym, ap, ◌∙◌, arith, length-append, length-drop}
use Rattle.std.specs.Prelude.{slice_get, slice_range}
use Rattle.std.proofs.lemmas.List.{length-take, length-replicate}
use Rattle.asm_frags.specs.Fields.{width}
use Rattle.asm_place.specs.CodePlaces.{FieldInCode, with_held, zeros_in, blanked, AreApart}
use Rattle.loaded_laws.specs.Codes.{IsOutside}
use Rattle.code_laws.proofs.Lists.{get_after, get_within, get_drop, get_take}

-- a number of elements of a list that has as many
slice_long : (bytes : List ℕ) (from to : ℕ) → from ≤ to → to ≤ length bytes → length (slice_range bytes from to) ≡ to - from
slice_long bytes from to up within = length-take (to - from) (drop from bytes) ∙ (let long = length-drop from bytes in omega arith)

-- fields that are apart begin within the bytes
apart_inside : (from end : ℕ) (fields : List FieldInCode) → AreApart from end fields → from ≤ end
apart_inside from end [] apart = apart
apart_inside from end (field ∷ fields) apart = let later = apart_inside (field.at + width field.size) end fields apart.1 in omega (arith, later, apart.0)

-- what is apart from a place on is so from one before it
apart_before : (from earlier end : ℕ) (fields : List FieldInCode) → earlier ≤ from → AreApart from end fields → AreApart earlier end fields
apart_before from earlier end [] less apart = omega (arith, less, apart)
apart_before from earlier end (field ∷ fields) less apart = (omega (arith, less, apart.0), apart.1)

zeros_long : (field : FieldInCode) → length (zeros_in field) ≡ width field.size
zeros_long field = length-replicate (width field.size) 0

module _ (bytes : List ℕ) where
  -- a byte beside the fields
  get_held : (from : ℕ) (fields : List FieldInCode) (k : ℕ) → AreApart from (length bytes) fields → from ≤ k → k < length bytes → IsOutside k fields
      → slice_get (with_held zeros_in bytes from fields) (k - from) ≡ slice_get bytes k
  get_held from [] k apart up few out = let same : from + (k - from) ≡ k = omega (arith, up) in get_drop bytes from (k - from) ∙ ap (slice_get bytes) same
  get_held from (field ∷ fields) k apart up few (inl low, out) =
      let inside = apart_inside (field.at + width field.size) (length bytes) fields apart.1 in
      let slice = slice_range bytes from field.at in
      let count : length slice ≡ field.at - from = slice_long bytes from field.at apart.0 (omega (arith, inside)) in
      let same : from + (k - from) ≡ k = omega (arith, up) in
      get_within slice _ (k - from) (omega (arith, low, up, count)) ∙ get_take (drop from bytes) (field.at - from) (k - from) (omega (arith, low, up))
      ∙ get_drop bytes from (k - from) ∙ ap (slice_get bytes) same
  get_held from (field ∷ fields) k apart up few (inr high, out) =
      let next = field.at + width field.size in
      let inside = apart_inside next (length bytes) fields apart.1 in
      let slice = slice_range bytes from field.at in
      let count : length slice ≡ field.at - from = slice_long bytes from field.at apart.0 (omega (arith, inside)) in
      let value = zeros_long field in
      let first : k - from ≡ length slice + (k - field.at) = omega (arith, high, count, apart.0) in
      let second : k - field.at ≡ length (zeros_in field) + (k - next) = omega (arith, high, value) in
      let tail = with_held zeros_in bytes next fields in
      ap (slice_get (slice ++ (zeros_in field ++ tail))) first ∙ get_after slice (zeros_in field ++ tail) (k - field.at)
      ∙ ap (slice_get (zeros_in field ++ tail)) second ∙ get_after (zeros_in field) tail (k - next)
      ∙ get_held next fields k apart.1 high few out

  held_long : (from : ℕ) (fields : List FieldInCode) → AreApart from (length bytes) fields → from + length (with_held zeros_in bytes from fields) ≡ length bytes
  held_long from [] apart = let rest = length-drop from bytes in omega (arith, rest, apart)
  held_long from (field ∷ fields) apart =
      let next = field.at + width field.size in
      let inside = apart_inside next (length bytes) fields apart.1 in
      let slice = slice_range bytes from field.at in
      let count : length slice ≡ field.at - from = slice_long bytes from field.at apart.0 (omega (arith, inside)) in
      let value = zeros_long field in
      let tail = with_held zeros_in bytes next fields in
      let one = length-append slice (zeros_in field ++ tail) in
      let two = length-append (zeros_in field) tail in
      let later = held_long next fields apart.1 in
      omega (arith, count, value, one, two, later, apart.0)

  module _ (fields : List FieldInCode) (apart : AreApart 1 (length bytes) fields) where
    first_apart : AreApart 0 (length bytes) fields
    first_apart = apart_before 1 0 (length bytes) fields (omega arith) apart

    -- as many bytes as the instruction has
    pub blank_long : length (blanked bytes fields) ≡ length bytes
    blank_long = let long = held_long 0 fields first_apart in omega (arith, long)

    -- those beside the fields are as they are
    pub get_blanked : (k : ℕ) → k < length bytes → IsOutside k fields → slice_get (blanked bytes fields) k ≡ slice_get bytes k
    get_blanked k few out =
        let none : k - 0 ≡ k = omega arith in
        ap (slice_get (blanked bytes fields)) (sym none) ∙ get_held 0 fields k first_apart (omega arith) few out

    -- there are some
    pub some_bytes : 0 < length bytes
    some_bytes = let inside = apart_inside 1 (length bytes) fields apart in omega (arith, inside)
