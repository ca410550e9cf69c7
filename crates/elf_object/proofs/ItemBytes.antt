-- As many bytes stand in the file as sizes say.
use Rattle.std.proofs.Common.{◌≡◌, ℕ, ◌+◌, ◌≤◌, ◌&&◌, nat_le, Bool, true, false, cond, List, [], ◌∷◌, ◌++◌, length, drop, refl, ap, ◌∙◌, arith, length-append, length-drop}
use Rattle.std.proofs.lemmas.List.Folds.{drop_split}
use Rattle.std.proofs.lemmas.Bool.Decides.{nat_tests}
use Rattle.std.specs.Prelude.{slice_range, unwrap_or}
use Rattle.asm_symbols.specs.SymbolMap.{SymbolMap}
use Rattle.asm_frags.specs.declared.fields.Field.{Field}
use Rattle.asm_frags.specs.declared.fields.FieldSize.{FieldSize}
use Rattle.asm_frags.specs.declared.fields.FieldSize.TheVariants.{One, Two, Four, Eight}
use Rattle.asm_frags.specs.PlainBytes.{covered, field_end}
use Rattle.asm_frags.specs.SectionOf.{SectionOf}
use Rattle.asm_relax.specs.FieldValues.{held_value}
use Rattle.asm_frags.specs.Fields.{width, low_bytes}
use Rattle.asm_relax.specs.Settling.{LaidItem, LaidSections}
use Rattle.elf_object.specs.Contents.{held_bytes, field_bytes, fits_behind, filled, plain_bytes}

-- one of two, each of which has the property where it is taken
pub one_of : {A : Type 0} (P : A → Type 0) (b : Bool) (x y : A) → (b ≡ true → P x) → (b ≡ false → P y) → P (cond b x y)
one_of P true x y left right = left refl
one_of P false x y left right = right refl

pub both_true : (a b : Bool) → (a && b) ≡ true → (a ≡ true) × (b ≡ true)
both_true true b h = (refl, h)
both_true false b h = absurd cc

pub le_from : (m n : ℕ) → nat_le m n ≡ true → m ≤ n
le_from m n h = grind (arith, nat_tests)

pub low_length : (size : FieldSize) (value : ℕ) → length (low_bytes size value) ≡ width size
unfolding low_bytes
low_length One value = refl
low_length Two value = refl
low_length Four value = refl
low_length Eight value = refl

-- a field has as many plain bytes as it stands over
pub held_length : (field : Field) (value : ℕ) → length (held_bytes field value) ≡ covered field
held_length field value = by field.in_item
  where
    by : (b : Bool) → length (cond b [] (low_bytes field.size value)) ≡ cond b 0 (width field.size)
    by true = refl
    by false = low_length field.size value

-- fields take no byte and add none
pub filled_length : (symbols : SymbolMap) (laid : LaidSections) (bytes : List ℕ) (at : ℕ) (fields : List Field) → at ≤ length bytes
    → length (filled symbols laid bytes at fields) + at ≡ length bytes
unfolding filled
filled_length symbols laid bytes at [] within = omega (arith, length-drop at bytes)
filled_length symbols laid bytes at (field ∷ fields) within =
    one_of (λ (made : List ℕ). length made + at ≡ length bytes) (fits_behind bytes at field)
    (slice_range bytes at field.offset ++ (field_bytes symbols laid field ++ filled symbols laid bytes (field_end field) fields)) (drop at bytes)
    (λ fits.
    let (behind, inside) = both_true (nat_le at field.offset) (nat_le (field_end field) (length bytes)) fits in
    let from : at ≤ field.offset = le_from at field.offset behind in
    let end : field_end field ≤ length bytes = le_from (field_end field) (length bytes) inside in
    let later : length (filled symbols laid bytes (field_end field) fields) + field_end field ≡ length bytes =
    filled_length symbols laid bytes (field_end field) fields end in
    let piece : length (field_bytes symbols laid field) ≡ covered field = held_length field (unwrap_or (held_value symbols laid field) 0) in
    let split : length (drop at bytes) ≡ length (slice_range bytes at field.offset) + length (drop field.offset bytes) =
    ap length (drop_split bytes at field.offset from) ∙ length-append (slice_range bytes at field.offset) (drop field.offset bytes) in
    let first = length-drop at bytes in
    let second = length-drop field.offset bytes in
    omega (
      arith,
      length-append (slice_range bytes at field.offset) (field_bytes symbols laid field ++ filled symbols laid bytes (field_end field) fields),
      length-append (field_bytes symbols laid field) (filled symbols laid bytes (field_end field) fields),
    ))
    (λ none. omega (arith, length-drop at bytes))

-- so there are as many plain bytes with the values of fields as without
pub plain_long : (symbols : SymbolMap) (laid : LaidSections) (section : SectionOf LaidItem) → length (plain_bytes symbols laid section) ≡ length section.bytes
plain_long symbols laid section = let whole = filled_length symbols laid section.bytes 0 section.fields (omega arith) in omega arith
