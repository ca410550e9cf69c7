-- The bytes of an encoding as they are loaded.
use Rattle.std.proofs.Common.{◌≡◌, ℕ, zero, suc, ◌+◌, ◌-◌, ◌<◌, ◌≤◌, ◌⊎◌, inl, inr, Bool, true, false, cond, List, [], ◌∷◌, ◌++◌, Option, Some, None, length, take, drop, get_or, refl, sym, ap, subst, ◌∙◌, arith, length-drop}
use Rattle.std.specs.Prelude.{slice_get, slice_range, unwrap_or}
use Rattle.std.proofs.lemmas.List.{length-take}
use Rattle.asm_frags.specs.Fields.{width}
use Rattle.x86_parts.specs.declared.encoded.Field.{Field}
use Rattle.x86_encode.specs.FieldPlaces.{IsWidth, AreApart}
use Rattle.x86_parts.specs.Filling.{Coding}
use Rattle.asm_place.specs.Coding.{InsnShape, field_size, code_field, displacement_field, immediate_field, is_branch, before_fields, fields_of}
use Rattle.asm_place.specs.CodePlaces.{FieldInCode, ValueForms}
use Rattle.step_readings.specs.Held.{AreBytes}
use Rattle.step_readings.specs.Loaded.{IsBeside, IsLoaded}
use Rattle.loaded_laws.specs.Codes.{IsOutside, StandsBeside}
use Rattle.code_laws.proofs.Lists.{get_drop, get_take, drop_two}

-- LISTS

get_by : (xs : List ℕ) (i : ℕ) → get_or xs i 0 ≡ unwrap_or (slice_get xs i) 0
get_by [] i = refl
get_by (x ∷ xs) zero = refl
get_by (x ∷ xs) (suc i) = get_by xs i

get_none : (xs : List ℕ) (i : ℕ) → length xs ≤ i → slice_get xs i ≡ None
get_none [] i long = refl
get_none (x ∷ xs) zero long = absurd (omega (arith, long))
get_none (x ∷ xs) (suc i) long = get_none xs i (omega (arith, long))

small_take : (xs : List ℕ) (n : ℕ) → AreBytes xs → AreBytes (take n xs)
small_take xs zero all i = omega arith
small_take [] (suc n) all i = omega arith
small_take (x ∷ xs) (suc n) all zero = all 0
small_take (x ∷ xs) (suc n) all (suc i) = small_take xs n (λ k. all (suc k)) i

small_drop : (xs : List ℕ) (n : ℕ) → AreBytes xs → AreBytes (drop n xs)
small_drop xs zero all i = all i
small_drop [] (suc n) all i = all i
small_drop (x ∷ xs) (suc n) all i = small_drop xs n (λ k. all (suc k)) i

-- one of two numbers is not below the other
pub either_way : (a b : ℕ) → (a < b) ⊎ (b ≤ a)
either_way zero zero = inr (omega arith)
either_way zero (suc b) = inl (omega arith)
either_way (suc a) zero = inr (omega arith)
either_way (suc a) (suc b) = elim (either_way a b) [ inl lt ↦ inl (omega (arith, lt)) | inr le ↦ inr (omega (arith, le)) ]

-- FIELDS

width_is : (size : ℕ) → IsWidth size → width (field_size size) ≡ size
width_is size (inl one) = subst (λ n. width (field_size n) ≡ n) (sym one) refl
width_is size (inr (inl two)) = subst (λ n. width (field_size n) ≡ n) (sym two) refl
width_is size (inr (inr (inl four))) = subst (λ n. width (field_size n) ≡ n) (sym four) refl
width_is size (inr (inr (inr eight))) = subst (λ n. width (field_size n) ≡ n) (sym eight) refl

-- the field stands where that of the encoding does
record IsAsCoded (made : FieldInCode) (field : Field) : Type 0 where
  at : made.at ≡ field.at
  size : width made.size ≡ field.size

outside : (make : Field → FieldInCode) (found : Option Field) (fields : List FieldInCode) (k : ℕ) → ((field : Field) → found ≡ Some field → IsAsCoded (make field) field)
    → IsBeside found k → IsOutside k fields → IsOutside k (before_fields make found fields)
outside make None fields k coded beside out = out
outside make (Some field) fields k coded beside out = (either beside, out)
  where
    either : (k < field.at) ⊎ (field.at + field.size ≤ k) → (k < (make field).at) ⊎ ((make field).at + width (make field).size ≤ k)
    either (inl low) = let at = (coded field refl).at in inl (omega (arith, low, at))
    either (inr high) = let at = (coded field refl).at in let size = (coded field refl).size in inr (omega (arith, high, at, size))

immediate_coded : (bytes : ℕ) (shape : InsnShape) (forms : ValueForms) (field : Field) (test : Bool) → width (field_size field.size) ≡ field.size
    → IsAsCoded (cond test (displacement_field bytes shape forms field) (code_field bytes field shape.immediate forms.immediate)) field
immediate_coded bytes shape forms field true size = record { at = refl; size = size }
immediate_coded bytes shape forms field false size = record { at = refl; size = size }

module _ (shape : InsnShape) (forms : ValueForms) (made : Coding) (apart : AreApart made) where
  -- what is beside the fields of the encoding is beside those that were put
  beside_fields : (k : ℕ) → IsBeside made.displacement k → IsBeside made.immediate k → IsOutside k (fields_of shape forms made)
  beside_fields k low high =
      outside (displacement_field (length made.bytes) shape forms) made.displacement
      (before_fields (immediate_field (length made.bytes) shape forms) made.immediate []) k
      (λ field is. record { at = refl; size = width_is field.size (inr (inr (inl (apart.displacement field is).size))) }) low
      (outside (immediate_field (length made.bytes) shape forms) made.immediate [] k
      (λ field is.
      let last = apart.immediate field is in
      immediate_coded (length made.bytes) shape forms field (is_branch field.kind) (width_is field.size (subst IsWidth (sym last.size) last.width))) high tt)

  module _ (code : List ℕ) (place : ℕ) (all : AreBytes code) (stands : StandsBeside made.bytes code place (fields_of shape forms made)) where
    abbrev count : ℕ
    count = place + length made.bytes - place

    abbrev loaded : List ℕ
    loaded = slice_range code place (place + length made.bytes)

    count_is : count ≡ length made.bytes
    count_is = omega arith

    long : length loaded ≡ length made.bytes
    long =
        let rest = length-drop place code in
        let within = stands.within in
        length-take count (drop place code) ∙ omega (arith, rest, within)

    get_loaded : (k : ℕ) → k < length made.bytes → slice_get loaded k ≡ slice_get code (place + k)
    get_loaded k few = get_take (drop place code) count k (let same = count_is in omega (arith, same, few)) ∙ get_drop code place k

    same_at : (k : ℕ) → IsBeside made.displacement k → IsBeside made.immediate k → (k < length made.bytes) ⊎ (length made.bytes ≤ k)
        → slice_get made.bytes k ≡ slice_get loaded k
    same_at k low high (inl few) = sym (get_loaded k few ∙ stands.same k few (beside_fields k low high))
    same_at k low high (inr many) = get_none made.bytes k many ∙ sym (get_none loaded k (let same = long in omega (arith, same, many)))

    -- they are those of the encoding but for its fields
    pub is_loaded : IsLoaded made loaded
    is_loaded = record {
      long = long;
      bytes = small_take (drop place code) count (small_drop code place all);
      same = λ k low high.
          get_by made.bytes k ∙ ap (λ found. unwrap_or found 0) (same_at k low high (either_way k (length made.bytes))) ∙ sym (get_by loaded k);
    }

    -- they stand at the place
    pub stands_there : drop place code ≡ loaded ++ drop count (drop place code)
    stands_there = drop_two (drop place code) count
