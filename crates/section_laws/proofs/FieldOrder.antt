-- Fields of a section stay in order, apart and over zeros where bytes and a field more come.
use Rattle.std.proofs.Common.{◌≡◌, ℕ, zero, suc, ◌+◌, ◌-◌, ◌≤◌, List, [], ◌∷◌, ◌++◌, All, length, take, drop, replicate, refl, ap, ◌∙◌, arith, length-append, length-drop}
use Rattle.std.specs.Prelude.{slice_range}
use Rattle.std.proofs.lemmas.List.{take-append-le, drop-append-le}
use Rattle.std.proofs.lemmas.List.Elements.{All-head, All-tail}
use Rattle.std.proofs.Math.Seq.{drop-append_seam}
use Rattle.asm_frags.specs.declared.fields.Field.{Field}
use Rattle.asm_frags.specs.PlainBytes.{covered, field_end, IsBlank, FieldsStand}

range_more : (xs ys : List ℕ) (from to : ℕ) → from ≤ to → to ≤ length xs → slice_range (xs ++ ys) from to ≡ slice_range xs from to
range_more xs ys from to up within =
    let inside : from ≤ length xs = omega arith in
    let long : to - from ≤ length (drop from xs) = omega (arith, length-drop from xs) in
    ap (λ (zs : List ℕ). take (to - from) zs) (drop-append-le from xs ys inside) ∙ take-append-le (to - from) (drop from xs) ys long

blank_more : (bytes more : List ℕ) (field : Field) → IsBlank bytes field → IsBlank (bytes ++ more) field
blank_more bytes more field blank = record {
  within = let fits = blank.within in omega (arith, length-append bytes more);
  zeros = range_more bytes more field.offset (field_end field) (omega arith) blank.within ∙ blank.zeros;
}

-- more bytes
pub stand_more : (bytes more : List ℕ) (from : ℕ) (fields : List Field) → FieldsStand bytes from fields → FieldsStand (bytes ++ more) from fields
stand_more bytes more from [] stand = tt
stand_more bytes more from (field ∷ fields) stand = (stand.0, blank_more bytes more field stand.1, stand_more bytes more (field_end field) fields stand.2)

-- more fields, which stand after the others
pub stand_both : (bytes : List ℕ) (from end : ℕ) (fields more : List Field) → from ≤ end → All (λ field. field_end field ≤ end) fields
    → FieldsStand bytes from fields
    → ((at : ℕ) → at ≤ end → FieldsStand bytes at more) → FieldsStand bytes from (fields ++ more)
stand_both bytes from end [] more before ends stand later = later from before
stand_both bytes from end (field ∷ fields) more before ends stand later = (
  stand.0,
  stand.1,
  stand_both bytes (field_end field) end fields more (All-head (λ (field : Field). field_end field ≤ end) field fields ends)
      (All-tail (λ (field : Field). field_end field ≤ end) field fields ends) stand.2 later,
)

zeros_whole : (count : ℕ) → take {A = ℕ} count (replicate count 0) ≡ replicate count 0
zeros_whole zero = refl
zeros_whole (suc count) = ap (λ (zs : List ℕ). 0 ∷ zs) (zeros_whole count)

zeros_many : (count : ℕ) → length {A = ℕ} (replicate count 0) ≡ count
zeros_many zero = refl
zeros_many (suc count) = ap suc (zeros_many count)

-- zeros behind the bytes, from there on
zeros_behind : (bytes : List ℕ) (count : ℕ)
    → slice_range (bytes ++ replicate count 0) (length bytes) (length bytes + count) ≡ replicate count 0
zeros_behind bytes count =
    let behind : length bytes + count - length bytes ≡ count = omega arith in
    ap (λ (n : ℕ). take n (drop (length bytes) (bytes ++ replicate count 0))) behind
    ∙ ap (λ (zs : List ℕ). take count zs) (drop-append_seam bytes (replicate count 0)) ∙ zeros_whole count

-- a field over zeros that come last
pub stand_last : (bytes : List ℕ) (field : Field) → field.offset ≡ length bytes → (at : ℕ) → at ≤ length bytes
    → FieldsStand (bytes ++ replicate (covered field) 0) at (field ∷ [])
stand_last bytes field behind at before = (
  rw behind before,
  record {
    within = let known = zeros_many (covered field) in omega (arith, length-append bytes (replicate (covered field) 0));
    zeros = ap (λ (n : ℕ). slice_range (bytes ++ replicate (covered field) 0) n (n + covered field)) behind ∙ zeros_behind bytes (covered field);
  },
  tt,
)
