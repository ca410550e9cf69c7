-- The bytes of an instruction with operands and its final values read as it, and as no other.
use Rattle.std.proofs.Common.{◌≡◌, ℕ, zero, suc, ◌+◌, ◌-◌, ◌^◌, ◌<◌, ◌≤◌, ◌⊎◌, inl, inr, Bool, true, false, cond, List, [], ◌∷◌, ◌++◌, All, Option, Some, None, Ok, length, take, drop, refl, sym, ap, ◌∙◌, subst, arith, append_assoc, length-append, length-take}
use Rattle.std.specs.Prelude.{slice_range}
use Rattle.std.proofs.lemmas.List.Elements.{All-head, All-tail}
use Rattle.asm_frags.specs.Fields.{width, is_distance, holds, low_bytes}
use Rattle.x86_insn.specs.Views.{View}
use Rattle.x86_table.specs.Reads.{meaning, ReadsOneWay}
use Rattle.x86_parts.specs.declared.encoded.Field.{Field as CodedField}
use Rattle.x86_insn.specs.declared.amounts.FieldKind.{FieldKind}
use Rattle.x86_insn.specs.declared.amounts.FieldKind.TheVariants as kind
use Rattle.x86_encode.specs.Answers.{InOrder, Fills}
use Rattle.x86_parts.specs.Codes.{meant}
use Rattle.x86_encode.specs.Encoding.{encoding_of}
use Rattle.x86_encode.specs.EncodingLaws.{EncodingsFill}
use Rattle.x86_encode.specs.FieldPlaces.{IsWidth, Apart, HoldUnknown, Unknown, EncodingsApart, EncodingsHoldUnknown}
use Rattle.x86_encode.specs.FieldPlaces as encoded
use Rattle.x86_parts.specs.Filling.{Coding, kind_holds, field_holds, low_bytes as bytes_of_low, filled}
use Rattle.att_insns.specs.InsnTexts.{InsnText}
use Rattle.asm_place.specs.Coding.{shape_in, view_in, values_in, field_size, is_branch, code_field, displacement_field, immediate_field, before_fields}
use Rattle.asm_place.specs.CodePlaces.{FieldInCode, ValueForms, with_held, AreApart, code_fields}
use Rattle.readback_laws.specs.Instructions.{value_in, FinalValues, final_values, final_code, ReadsWith, CodeReadsAt}
use Rattle.readback_laws.proofs.CodeValues.{low_same, low_length, holds_same}
use Rattle.readback_laws.proofs.SmallForms.{IsSmall, open_small, held_small}
use Rattle.readback_laws.proofs.UnknownValues.{immediate_open, displacement_open}

-- FILLING

take_behind : (xs ys : List ℕ) (n : ℕ) → length xs ≤ n → take n (xs ++ ys) ≡ xs ++ take (n - length xs) ys
take_behind [] ys n long = let same : n - 0 ≡ n = omega arith in ap (λ k. take k ys) (sym same)
take_behind (x ∷ xs) ys zero long = absurd (omega arith)
take_behind (x ∷ xs) ys (suc n) long =
    let same : suc n - suc (length xs) ≡ n - length xs = omega arith in
    ap (λ (zs : List ℕ). x ∷ zs) (take_behind xs ys n (omega arith) ∙ ap (λ k. xs ++ take k ys) (sym same))

drop_behind : (xs ys : List ℕ) (n : ℕ) → length xs ≤ n → drop n (xs ++ ys) ≡ drop (n - length xs) ys
drop_behind [] ys n long = let same : n - 0 ≡ n = omega arith in ap (λ k. drop k ys) (sym same)
drop_behind (x ∷ xs) ys zero long = absurd (omega arith)
drop_behind (x ∷ xs) ys (suc n) long =
    let same : suc n - suc (length xs) ≡ n - length xs = omega arith in
    drop_behind xs ys n (omega arith) ∙ ap (λ k. drop k ys) (sym same)

drop_none : (n : ℕ) → drop {A = ℕ} n [] ≡ []
drop_none zero = refl
drop_none (suc n) = refl

drop_again : (n more : ℕ) (xs : List ℕ) → drop more (drop n xs) ≡ drop (n + more) xs
drop_again zero more xs = let same : 0 + more ≡ more = omega arith in ap (λ k. drop k xs) (sym same)
drop_again (suc n) more [] = drop_none more ∙ sym (drop_none (suc n + more))
drop_again (suc n) more (x ∷ xs) = let same : suc n + more ≡ suc (n + more) = omega arith in drop_again n more xs ∙ ap (λ k. drop k (x ∷ xs)) (sym same)

-- a field of the encoding, as sections have it, with the bytes that it holds
pub record IsFilled (field : CodedField) (held : FieldInCode → List ℕ) (value : FieldInCode → ℕ) (made : FieldInCode) : Type 0 where
  pub at_is : made.at ≡ field.at
  pub size_is : width made.size ≡ field.size
  pub bytes : held made ≡ bytes_of_low field.size (value made)

from_start : (bytes : List ℕ) (n : ℕ) → slice_range bytes 0 n ≡ take n bytes
from_start bytes n = let same : n - 0 ≡ n = omega arith in ap (λ k. take k bytes) same

module _ (bytes : List ℕ) (held : FieldInCode → List ℕ) (value : FieldInCode → ℕ) where
  -- one field, and what stands behind it
  one_filled : (field : CodedField) (made : FieldInCode) → IsFilled field held value made
      → with_held held bytes 0 (made ∷ []) ≡ filled (Some field) (value made) bytes
  one_filled field made is =
      ap (λ n. slice_range bytes 0 n ++ (held made ++ drop (n + width made.size) bytes)) is.at_is
      ∙ (ap (λ n. slice_range bytes 0 field.at ++ (held made ++ drop (field.at + n) bytes)) is.size_is
      ∙ (ap (λ (xs : List ℕ). slice_range bytes 0 field.at ++ (xs ++ drop (field.at + field.size) bytes)) is.bytes
      ∙ ap (λ (xs : List ℕ). xs ++ (bytes_of_low field.size (value made) ++ drop (field.at + field.size) bytes)) (from_start bytes field.at)))

  -- two fields
  two_filled : (one other : CodedField) (first second : FieldInCode) → IsFilled one held value first → IsFilled other held value second
      → length (held first) ≡ width first.size
      → AreApart 1 (length bytes) (first ∷ second ∷ [])
      → with_held held bytes 0 (first ∷ second ∷ []) ≡ filled (Some other) (value second) (filled (Some one) (value first) bytes)
  two_filled one other first second is also sized apart =
      let a = take one.at bytes in
      let x = bytes_of_low one.size (value first) in
      let y = bytes_of_low other.size (value second) in
      let end = one.at + one.size in
      let rest = drop end bytes in
      let last = drop (other.at + other.size) bytes in
      let counted = length-take one.at bytes in
      let a_long : length a ≡ one.at = (let at = is.at_is in let size = is.size_is in let at2 = also.at_is in let size2 = also.size_is in
      length_of_take bytes one.at (omega (arith, apart.0, apart.1.0, apart.1.1, at, size, at2, size2))) in
      let x_long : length x ≡ one.size = ap (λ (xs : List ℕ). length xs) (sym is.bytes) ∙ sized ∙ is.size_is in
      let front_long : length (a ++ x) ≡ end = length-append a x ∙ ap (λ k. k + length x) a_long ∙ ap (λ k. one.at + k) x_long in
      let up : end ≤ other.at = (let at = is.at_is in let size = is.size_is in let at2 = also.at_is in omega (arith, apart.1.0, at, size, at2)) in
      let inner : filled (Some one) (value first) bytes ≡ (a ++ x) ++ rest = sym (append_assoc a x rest) in
      let taken : take other.at ((a ++ x) ++ rest) ≡ a ++ (x ++ slice_range bytes end other.at) =
      take_behind (a ++ x) rest other.at (omega (arith, front_long, up)) ∙ ap (λ k. (a ++ x) ++ take (other.at - k) rest) front_long ∙ append_assoc a x
      (slice_range bytes end other.at) in
      let back : end + (other.at + other.size - end) ≡ other.at + other.size = omega (arith, up) in
      let dropped : drop (other.at + other.size) ((a ++ x) ++ rest) ≡ last =
      drop_behind (a ++ x) rest (other.at + other.size) (omega (arith, front_long, up)) ∙ ap (λ k. drop (other.at + other.size - k) rest) front_long
      ∙ drop_again end (other.at + other.size - end) bytes ∙ ap (λ k. drop k bytes) back in
      let right : filled (Some other) (value second) (filled (Some one) (value first) bytes) ≡ a ++ (x ++ (slice_range bytes end other.at ++ (y ++ last))) =
      ap (filled (Some other) (value second)) inner
      ∙ ap (λ (xs : List ℕ). xs ++ (y ++ drop (other.at + other.size) ((a ++ x) ++ rest))) taken
      ∙ ap (λ (xs : List ℕ). (a ++ (x ++ slice_range bytes end other.at)) ++ (y ++ xs)) dropped
      ∙ (append_assoc a (x ++ slice_range bytes end other.at) (y ++ last) ∙ ap (λ (xs : List ℕ). a ++ xs)
      (append_assoc x (slice_range bytes end other.at) (y ++ last))) in
      let left : with_held held bytes 0 (first ∷ second ∷ []) ≡ a ++ (x ++ (slice_range bytes end other.at ++ (y ++ last))) =
      ap (λ n. slice_range bytes 0 n ++ (held first ++ (slice_range bytes
      (n + width first.size) second.at ++ (held second ++ drop (second.at + width second.size) bytes)))) is.at_is
      ∙ (ap (λ n. slice_range bytes 0 one.at ++ (held first ++ (slice_range bytes
      (one.at + n) second.at ++ (held second ++ drop (second.at + width second.size) bytes)))) is.size_is
      ∙ (ap (λ n. slice_range bytes 0 one.at ++ (held first ++ (slice_range bytes end n ++ (held second ++ drop (n + width second.size) bytes)))) also.at_is
      ∙ (ap (λ n. slice_range bytes 0 one.at ++ (held first ++ (slice_range bytes end other.at ++ (held second ++ drop (other.at + n) bytes)))) also.size_is
      ∙ (ap (λ (xs : List ℕ). slice_range bytes 0 one.at ++ (xs ++ (slice_range bytes end other.at ++ (held second ++ last)))) is.bytes
      ∙ (ap (λ (xs : List ℕ). slice_range bytes 0 one.at ++ (x ++ (slice_range bytes end other.at ++ (xs ++ last)))) also.bytes
      ∙ ap (λ (xs : List ℕ). xs ++ (x ++ (slice_range bytes end other.at ++ (y ++ last)))) (from_start bytes one.at)))))) in
      left ∙ sym right
    where
      length_of_take : (xs : List ℕ) (n : ℕ) → n ≤ length xs → length (take n xs) ≡ n
      length_of_take xs zero within = refl
      length_of_take [] (suc n) within = absurd (omega arith)
      length_of_take (x ∷ xs) (suc n) within = ap suc (length_of_take xs n (omega arith))

  -- the fields of an encoding
  fields_filled : (ds bs : CodedField → FieldInCode) (d i : Option CodedField)
      → ((f : CodedField) → d ≡ Some f → IsFilled f held value (ds f) × (length (held (ds f)) ≡ width (ds f).size))
      → ((f : CodedField) → i ≡ Some f → IsFilled f held value (bs f)) → AreApart 1 (length bytes) (before_fields ds d (before_fields bs i []))
      → with_held held bytes 0 (before_fields ds d (before_fields bs i [])) ≡ filled i (value_in value bs i) (filled d (value_in value ds d) bytes)
  fields_filled ds bs None None one other apart = refl
  fields_filled ds bs None (Some g) one other apart = one_filled g (bs g) (other g refl)
  fields_filled ds bs (Some f) None one other apart = one_filled f (ds f) (one f refl).0
  fields_filled ds bs (Some f) (Some g) one other apart = let h = one f refl in two_filled f g (ds f) (bs g) h.0 (other g refl) h.1 apart

-- WHAT THE FIELDS HOLD

first_of_all : (P : FieldInCode → Type 0) (ds bs : CodedField → FieldInCode) (d i : Option CodedField) → All P (before_fields ds d (before_fields bs i []))
    → (f : CodedField) → d ≡ Some f → P (ds f)
first_of_all P ds bs None i all f is = absurd cc
first_of_all P ds bs (Some g) i all f is = subst (λ x. P (ds x)) (same g f is) (All-head P (ds g) (before_fields bs i []) all)
  where
    same : (g f : CodedField) → Some g ≡ Some f → g ≡ f
    same g f is = cc

last_of_all : (P : FieldInCode → Type 0) (ds bs : CodedField → FieldInCode) (d i : Option CodedField) → All P (before_fields ds d (before_fields bs i []))
    → (f : CodedField) → i ≡ Some f → P (bs f)
last_of_all P ds bs d None all f is = absurd cc
last_of_all P ds bs None (Some g) all f is = subst (λ x. P (bs x)) (same g f is) (All-head P (bs g) [] all)
  where
    same : (g f : CodedField) → Some g ≡ Some f → g ≡ f
    same g f is = cc
last_of_all P ds bs (Some d) (Some g) all f is = subst (λ x. P (bs x)) (same g f is) (All-head P (bs g) [] (All-tail P (ds d) (bs g ∷ []) all))
  where
    same : (g f : CodedField) → Some g ≡ Some f → g ≡ f
    same g f is = cc

branch_far : {C : Type 0} (k : FieldKind) → is_branch k ≡ true → is_distance k ≡ false → C
branch_far kind.Plain is near = absurd cc
branch_far kind.Signed is near = absurd cc
branch_far kind.Address is near = absurd cc
branch_far kind.Branch is near = absurd cc
branch_far kind.Number is near = absurd cc

kind_far : {C : Type 0} (k : FieldKind) → (k ≡ kind.Address) ⊎ (k ≡ kind.Branch) → is_distance k ≡ false → C
kind_far kind.Plain is near = elim is [ inl a ↦ absurd cc | inr b ↦ absurd cc ]
kind_far kind.Signed is near = elim is [ inl a ↦ absurd cc | inr b ↦ absurd cc ]
kind_far kind.Address is near = absurd cc
kind_far kind.Branch is near = absurd cc
kind_far kind.Number is near = elim is [ inl a ↦ absurd cc | inr b ↦ absurd cc ]

branch_small : (test : Bool) (one other : FieldInCode) → (test ≡ true → IsSmall one.form) → (test ≡ false → IsSmall other.form)
    → IsSmall (cond test one other).form
branch_small true one other first later = first refl
branch_small false one other first later = later refl

-- what both fields tell alike, either tells
either_tells : {Y : Type 0} (tells : FieldInCode → Y) (y : Y) (test : Bool) (one other : FieldInCode) → tells one ≡ y → tells other ≡ y → tells (cond test one other) ≡ y
either_tells tells y true one other a b = a
either_tells tells y false one other a b = b

-- a field of so many bytes has them
width_is : (size : ℕ) → IsWidth size → width (field_size size) ≡ size
width_is size has =
    let same : (n : ℕ) → size ≡ n → width (field_size n) ≡ n → width (field_size size) ≡ size = λ n is held. subst (λ m. width (field_size m) ≡ m) (sym is) held in
    elim has [
      | inl is ↦ same 1 is refl
      | inr more ↦ elim more [ inl is ↦ same 2 is refl | inr large ↦ elim large [ inl is ↦ same 4 is refl | inr is ↦ same 8 is refl ] ]
    ]

module _ (text : InsnText) (forms : ValueForms) (made : Coding) (stand : encoded.AreApart made)
    (unknown : HoldUnknown (meant (view_in text (values_in forms))) made) where
  abbrev ds : CodedField → FieldInCode
  ds = displacement_field (length made.bytes) (shape_in text) forms

  abbrev bs : CodedField → FieldInCode
  bs = immediate_field (length made.bytes) (shape_in text) forms

  displacement_small : (f : CodedField) → made.displacement ≡ Some f → IsSmall (ds f).form
  displacement_small f is =
      held_small f.kind forms.displacement (λ near. elim (displacement_open text (values_in forms) made f unknown is) [
        | inl address ↦ kind_far f.kind (inl address) near
        | inr none ↦ open_small forms.displacement none
      ])

  immediate_small : (f : CodedField) → made.immediate ≡ Some f → IsSmall (bs f).form
  immediate_small f is =
      branch_small (is_branch f.kind) (ds f) (code_field (length made.bytes) f text.immediate.suffix forms.immediate)
      (λ branch. held_small f.kind forms.displacement (λ near. branch_far f.kind branch near))
      (λ plain. held_small f.kind forms.immediate (λ near. elim (immediate_open text (values_in forms) made f unknown is) [
        | inl branch ↦ kind_far f.kind (inr branch) near
        | inr none ↦ open_small forms.immediate none
      ]))

  -- the bytes of a field, and how many there are
  displacement_sized : (f : CodedField) → made.displacement ≡ Some f → width (ds f).size ≡ f.size
  displacement_sized f is =
      let size = (stand.displacement f is).size in
      ap (λ s. width (field_size s)) size ∙ sym size

  immediate_sized : (f : CodedField) → made.immediate ≡ Some f → width (bs f).size ≡ f.size
  immediate_sized f is =
      let last = stand.immediate f is in
      ap width (either_tells (λ c. c.size) (field_size f.size) (is_branch f.kind) (ds f)
      (code_field (length made.bytes) f text.immediate.suffix forms.immediate) refl refl)
      ∙ (ap (λ s. width (field_size s)) last.size ∙ (width_is stand.last last.width ∙ sym last.size))

  immediate_at : (f : CodedField) → (bs f).at ≡ f.at
  immediate_at f = either_tells (λ c. c.at) f.at (is_branch f.kind) (ds f) (code_field (length made.bytes) f text.immediate.suffix forms.immediate) refl refl

  immediate_kind : (f : CodedField) → (bs f).role.kind ≡ f.kind
  immediate_kind f =
      either_tells (λ c. c.role.kind) f.kind (is_branch f.kind) (ds f)
      (code_field (length made.bytes) f text.immediate.suffix forms.immediate) refl refl

  module _ (value : FieldInCode → ℕ) (low : (c : FieldInCode) → IsSmall c.form → value c < 2 ^ 64) where
    abbrev held : FieldInCode → List ℕ
    held c = low_bytes c.size (value c)

    filled_so : (f : CodedField) (c : FieldInCode) → c.at ≡ f.at → width c.size ≡ f.size → IsSmall c.form → IsFilled f held value c
    filled_so f c at size small =
        record { at_is = at; size_is = size; bytes = low_same c.size (value c) (low c small) ∙ ap (λ k. bytes_of_low k (value c)) size }

    -- the bytes with these values in the fields are those of the encoding with them
    pub code_filled : AreApart 1 (length made.bytes) (code_fields text forms made)
        → with_held held made.bytes 0 (code_fields text forms made) ≡ final_code made (final_values value text forms made)
    code_filled apart =
        fields_filled made.bytes held value ds bs made.displacement made.immediate
        (λ f is. (filled_so f (ds f) refl (displacement_sized f is) (displacement_small f is), low_length (ds f).size (value (ds f))))
        (λ f is. filled_so f (bs f) (immediate_at f) (immediate_sized f is) (immediate_small f is)) apart

    abbrev Holds : FieldInCode → Type 0
    Holds c = holds c.role.kind c.size (value c) ≡ true

    holds_so : (f : CodedField) (c : FieldInCode) → c.role.kind ≡ f.kind → width c.size ≡ f.size → IsSmall c.form → Holds c
        → kind_holds f.kind f.size (value c) ≡ true
    holds_so f c same size small is =
        subst (λ k. kind_holds f.kind k (value c) ≡ true) size
        (holds_same f.kind c.size (value c) (low c small) (subst (λ k. holds k c.size (value c) ≡ true) same is))

    held_in : (makes : CodedField → FieldInCode) (o : Option CodedField) → ((f : CodedField) → o ≡ Some f → kind_holds f.kind f.size (value (makes f)) ≡ true)
        → field_holds o (value_in value makes o) ≡ true
    held_in makes None each = refl
    held_in makes (Some f) each = each f refl

    pub displacement_held : All Holds (code_fields text forms made) → field_holds made.displacement (value_in value ds made.displacement) ≡ true
    displacement_held all =
        held_in ds made.displacement (λ f is.
        holds_so f (ds f) refl (displacement_sized f is) (displacement_small f is) (first_of_all Holds ds bs made.displacement made.immediate all f is))

    pub immediate_held : All Holds (code_fields text forms made) → field_holds made.immediate (value_in value bs made.immediate) ≡ true
    immediate_held all =
        held_in bs made.immediate (λ f is.
        holds_so f (bs f) (immediate_kind f) (immediate_sized f is) (immediate_small f is) (last_of_all Holds ds bs made.displacement made.immediate all f is))

-- bytes that begin with those of the encoding with its final values read as the instruction with these, and as no other
code_at : ReadsOneWay → (bytes rest : List ℕ) (at : ℕ) (insn : View) (made : Coding) (values : FinalValues) → drop at bytes ≡ final_code made values ++ rest
    → InOrder (ReadsWith made values) insn
    → CodeReadsAt bytes at insn made values
code_at one_way bytes rest at insn made values stands reads = record {
  rest = rest;
  stands = stands;
  reads = reads;
  only = λ front after other begins as_other.
      one_way front (final_code made values) after rest other (meaning reads.2.r reads.2.p) as_other (reads.2.row, reads.2.r, reads.2.p, reads.2.reads)
      (sym begins ∙ stands);
}

-- where the bytes of an encoding stand with the values of its fields, and the fields hold them, they read as the instruction
pub code_reads : ReadsOneWay → EncodingsFill → EncodingsApart → EncodingsHoldUnknown
    → (text : InsnText) (forms : ValueForms) (made : Coding) (value : FieldInCode → ℕ) (bytes rest : List ℕ) (at : ℕ)
    → encoding_of (view_in text) (values_in forms) ≡ Ok made → AreApart 1 (length made.bytes) (code_fields text forms made) → ((c : FieldInCode) → IsSmall c.form → value c < 2 ^ 64)
    → All (λ c. holds c.role.kind c.size (value c) ≡ true) (code_fields text forms made)
    → drop at bytes ≡ with_held (λ c. low_bytes c.size (value c)) made.bytes 0 (code_fields text forms made) ++ rest
    → CodeReadsAt bytes at (meant (view_in text (values_in forms))) made (final_values value text forms made)
code_reads one_way fills places unknown text forms made value bytes rest at coding apart low all stands =
    let insn = meant (view_in text (values_in forms)) in
    let values = final_values value text forms made in
    let fill = subst (Fills insn) coding (fills (view_in text) (values_in forms)) in
    let stand = subst Apart coding (places (view_in text) (values_in forms)) in
    let holds_unknown = subst (Unknown insn) coding (unknown (view_in text) (values_in forms)) in
    code_at one_way bytes rest at insn made values
    (stands ∙ ap (λ (xs : List ℕ). xs ++ rest) (code_filled text forms made stand holds_unknown value low apart)) (
      fill.0,
      fill.1,
      fill.2 values.displacement values.immediate (displacement_held text forms made stand holds_unknown value low all)
          (immediate_held text forms made stand holds_unknown value low all),
    )
