-- An instruction with zeros in its fields has as many bytes.
use Rattle.std.proofs.Common.{◌≡◌, ℕ, ◌+◌, ◌-◌, ◌≤◌, List, [], ◌∷◌, ◌++◌, length, drop, ◌∙◌, arith, length-append, length-drop}
use Rattle.std.specs.Prelude.{slice_range}
use Rattle.std.proofs.lemmas.List.{length-take, length-replicate}
use Rattle.asm_frags.specs.Fields.{width}
use Rattle.asm_place.specs.CodePlaces.{FieldInCode, with_held, zeros_in, blanked, AreApart}

-- fields that are apart begin within the bytes
apart_inside : (from end : ℕ) (fields : List FieldInCode) → AreApart from end fields → from ≤ end
apart_inside from end [] apart = apart
apart_inside from end (field ∷ fields) apart = let later = apart_inside (field.at + width field.size) end fields apart.1 in omega (arith, later, apart.0)

-- what is apart from a place on is so from one before it
apart_before : (from earlier end : ℕ) (fields : List FieldInCode) → earlier ≤ from → AreApart from end fields → AreApart earlier end fields
apart_before from earlier end [] less apart = omega (arith, less, apart)
apart_before from earlier end (field ∷ fields) less apart = (omega (arith, less, apart.0), apart.1)

-- a number of elements of a list that has as many
slice_long : (bytes : List ℕ) (from to : ℕ) → from ≤ to → to ≤ length bytes → length (slice_range bytes from to) ≡ to - from
slice_long bytes from to up within = length-take (to - from) (drop from bytes) ∙ (let long = length-drop from bytes in omega arith)

held_long : (bytes : List ℕ) (from : ℕ) (fields : List FieldInCode) → AreApart from (length bytes) fields
    → from + length (with_held zeros_in bytes from fields) ≡ length bytes
held_long bytes from [] apart = let long = length-drop from bytes in omega (arith, long, apart)
held_long bytes from (field ∷ fields) apart =
    let inside = apart_inside (field.at + width field.size) (length bytes) fields apart.1 in
    let first = slice_long bytes from field.at apart.0 (omega (arith, inside)) in
    let later = held_long bytes (field.at + width field.size) fields apart.1 in
    let zeros : length (zeros_in field) ≡ width field.size = length-replicate (width field.size) 0 in
    let rest = with_held zeros_in bytes (field.at + width field.size) fields in
    let one = length-append (slice_range bytes from field.at) (zeros_in field ++ rest) in
    let two = length-append (zeros_in field) rest in
    omega (arith, first, later, zeros, one, two, apart.0, inside)

pub blank_long : (bytes : List ℕ) (fields : List FieldInCode) → AreApart 1 (length bytes) fields → length (blanked bytes fields) ≡ length bytes
blank_long bytes fields apart =
    let long = held_long bytes 0 fields (apart_before 1 0 (length bytes) fields (omega arith) apart) in
    omega (arith, long)
