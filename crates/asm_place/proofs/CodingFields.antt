-- The fields of an encoding stand apart, within its bytes and behind the first one.
use Rattle.std.proofs.Common.{◌≡◌, ℕ, ◌+◌, ◌≤◌, inl, inr, Bool, true, false, cond, [], length, Option, None, Some, Ok, refl, sym, ap, ◌∙◌, subst, arith}
use Rattle.x86_parts.specs.declared.encoded.Field.{Field}
use Rattle.x86_encode.specs.Encoding.{encoding_of}
use Rattle.x86_encode.specs.FieldPlaces.{IsWidth, Apart, EncodingsApart}
use Rattle.x86_encode.specs.FieldPlaces as encoded
use Rattle.x86_parts.specs.Filling.{Coding}
use Rattle.asm_frags.specs.Fields.{width}
use Rattle.asm_place.specs.declared.codes.InsnForms.{InsnForms}
use Rattle.asm_place.specs.declared.codes.CodeField.{CodeField}
use Rattle.asm_place.specs.Coding.{InsnShape, field_size, is_branch, displacement_field, immediate_field, before_fields, fields_of, values_in}
use Rattle.asm_place.specs.CodePlaces.{AreApart}

-- the two fields, if they are there, end where the instruction does
both_apart : (n k : ℕ) (ds bs : Field → CodeField) (d i : Option Field) → 1 + k ≤ n
    → ((f : Field) → d ≡ Some f → ((ds f).at + 4 + k ≡ n) × (1 ≤ (ds f).at) × (width (ds f).size ≡ 4))
    → ((f : Field) → i ≡ Some f → ((bs f).at + k ≡ n) × (width (bs f).size ≡ k)) → AreApart 1 n (before_fields ds d (before_fields bs i []))
both_apart n k ds bs None None some one other = omega (arith, some)
both_apart n k ds bs None (Some g) some one other = let h = other g refl in (omega (arith, some, h.0), omega (arith, h.0, h.1))
both_apart n k ds bs (Some f) None some one other = let h = one f refl in (h.1, omega (arith, h.0, h.2))
both_apart n k ds bs (Some f) (Some g) some one other =
    let h = one f refl in let j = other g refl in (h.1, (omega (arith, h.0, h.2, j.0), omega (arith, j.0, j.1)))

-- what both fields tell alike, either tells
either_tells : {Y : Type 0} (tells : CodeField → Y) (y : Y) (test : Bool) (one other : CodeField) → tells one ≡ y → tells other ≡ y → tells (cond test one other) ≡ y
either_tells tells y true one other a b = a
either_tells tells y false one other a b = b

-- a field of so many bytes has them
width_is : (size : ℕ) → IsWidth size → width (field_size size) ≡ size
width_is size has =
    let same : (n : ℕ) → size ≡ n → width (field_size n) ≡ n → width (field_size size) ≡ size = λ n is held. subst (λ m. width (field_size m) ≡ m) (sym is) held in
    elim has [
      | inl is ↦ same 1 is refl
      | inr more ↦ elim more [ inl is ↦ same 2 is refl | inr large ↦ elim large [ inl is ↦ same 4 is refl | inr is ↦ same 8 is refl ] ]
    ]

fields_apart : (shape : InsnShape) (forms : InsnForms) (made : Coding) → encoded.AreApart made → AreApart 1 (length made.bytes) (fields_of shape forms made)
fields_apart shape forms made apart =
    let n = length made.bytes in
    let k = apart.last in
    both_apart n k (displacement_field n shape forms) (immediate_field n shape forms) made.displacement made.immediate apart.behind
    (λ f is. let m = apart.displacement f is in (m.at, m.behind, ap (λ s. width (field_size s)) m.size))
    (λ f is.
    let h = apart.immediate f is in
    let at : (immediate_field n shape forms f).at ≡ f.at = either_tells (λ c. c.at) f.at (is_branch f.kind) _ _ refl refl in
    let size : width (immediate_field n shape forms f).size ≡ width (field_size f.size) =
    either_tells (λ c. width c.size) (width (field_size f.size)) (is_branch f.kind) _ _ refl refl in
    (ap (λ place. place + k) at ∙ h.at, size ∙ ap (λ s. width (field_size s)) h.size ∙ width_is k h.width))

-- the fields of an encoding stand in order and apart, within its bytes and behind the first one
pub coding_apart : EncodingsApart → (shape : InsnShape) (forms : InsnForms) (made : Coding) → encoding_of shape.view (values_in forms) ≡ Ok made
    → AreApart 1 (length made.bytes) (fields_of shape forms made)
coding_apart places shape forms made is = fields_apart shape forms made (subst Apart is (places shape.view (values_in forms)))
