-- The fields of a section, one after the other.
use Rattle.std.proofs.Common.{◌≡◌, ℕ, ◌+◌, ◌<◌, ◌≤◌, ◌&&◌, true, cond, arith, nat_le, List, ◌∷◌, ◌++◌, length, get_or, drop, ◌-◌, take_all, length-drop, sym, ap, ◌∙◌, subst, append_assoc, Some, None, Option, [], refl}
use Rattle.std.specs.Prelude.{slice_range, filter_map, is_some, option_map}
use Rattle.std.specs.List.{cons_option}
use Rattle.std.specs.Option.{option_to_list}
use Rattle.std.proofs.Math.Nat.{le_of_eq}
use Rattle.std.proofs.lemmas.List.{at_drop_more, at_drop_all}
use Rattle.std.proofs.lemmas.Bool.Decides.{nat_tests}
use Rattle.asm_frags.specs.declared.fields.Field.{Field}
use Rattle.asm_frags.specs.PlainBytes.{covered, field_end, IsBlank, FieldsStand}
use Rattle.asm_frags.specs.SectionOf.{SectionOf}
use Rattle.asm_symbols.specs.SymbolMap.{SymbolMap}
use Rattle.elf_object.specs.Contents.{fits_behind, field_bytes, filled}
use Rattle.asm_expr.specs.declared.forms.Term.{Term}
use Rattle.asm_expr.specs.Settled.{settled, constant_by}
use Rattle.asm_relax.specs.FieldValues.{told_in_field, counted, held_value}
use Rattle.asm_relax.specs.Settling.{LaidItem, LaidSections}
use Rattle.elf_object.specs.Relocations.{reference_by, field_place, field_relocation}

fits_here : (bytes : List ℕ) (from : ℕ) (field : Field) → from ≤ field.offset → IsBlank bytes field → fits_behind bytes from field ≡ true
fits_here bytes from field later blank =
    let first : nat_le from field.offset ≡ true = grind (arith, nat_tests) in
    let second : nat_le (field_end field) (length bytes) ≡ true = grind (arith, nat_tests, blank.within) in
    ap (λ b. b && nat_le (field_end field) (length bytes)) first ∙ second

-- the bytes of a field stand behind those before it
pub filled_one : (map : SymbolMap) (sections : LaidSections) (bytes : List ℕ) (field : Field) (fields : List Field) (from : ℕ) → from ≤ field.offset → IsBlank bytes field
    → filled map sections bytes from (field ∷ fields)
    ≡ slice_range bytes from field.offset ++ (field_bytes map sections field ++ filled map sections bytes (field_end field) fields)
unfolding filled
filled_one map sections bytes field fields from later blank =
    ap (λ b. cond b (slice_range bytes from field.offset ++ (field_bytes map sections field ++ filled map sections bytes (field_end field) fields)) (drop from bytes)) (fits_here bytes from field later blank)

joined : (out a b rest : List ℕ) → ((out ++ a) ++ b) ++ rest ≡ out ++ (a ++ (b ++ rest))
joined out a b rest = append_assoc (out ++ a) b rest ∙ append_assoc out a (b ++ rest)

-- a field more is put
pub fields_step : (map : SymbolMap) (sections : LaidSections) (bytes : List ℕ) (fields : List Field) (i from size : ℕ) (field : Field) (out more last whole : List ℕ)
    → i < length fields → field ≡ get_or fields i field → size ≡ covered field → FieldsStand bytes from (drop i fields)
    → more ≡ out ++ slice_range bytes from field.offset → last ≡ more ++ field_bytes map sections field → out ++ filled map sections bytes from (drop i fields) ≡ whole
    → (field.offset + size ≤ length bytes) × FieldsStand bytes (field.offset + size) (drop (i + 1) fields)
    × (last ++ filled map sections bytes (field.offset + size) (drop (i + 1) fields) ≡ whole)
fields_step map sections bytes fields i from size field out more last whole inside is long stand first second before =
    let head : drop i fields ≡ field ∷ drop (i + 1) fields = at_drop_more (λ fs. fs) fields i field inside ∙ ap (λ f. f ∷ drop (i + 1) fields) (sym is) in
    let here = subst (FieldsStand bytes from) head stand in
    let end : field_end field ≡ field.offset + size = ap (λ n. field.offset + n) (sym long) in
    let rest = filled map sections bytes (field_end field) (drop (i + 1) fields) in
    let text : filled map sections bytes from (drop i fields) ≡ slice_range bytes from field.offset ++ (field_bytes map sections field ++ rest)
    = ap (filled map sections bytes from) head ∙ filled_one map sections bytes field (drop (i + 1) fields) from here.0 here.1 in (
      subst (λ n. n ≤ length bytes) end here.1.within,
      subst (λ n. FieldsStand bytes n (drop (i + 1) fields)) end here.2,
      ap (λ n. last ++ filled map sections bytes n (drop (i + 1) fields)) (sym end)
          ∙ ap (λ xs. xs ++ rest) (second ∙ ap (λ xs. xs ++ field_bytes map sections field) first)
          ∙ joined out (slice_range bytes from field.offset) (field_bytes map sections field) rest ∙ ap (λ xs. out ++ xs) (sym text) ∙ before,
    )

-- behind the last field stand the bytes that are left
pub fields_end : (map : SymbolMap) (sections : LaidSections) (bytes : List ℕ) (fields : List Field) (i from : ℕ) (out last whole : List ℕ) → length fields ≤ i
    → out ++ filled map sections bytes from (drop i fields) ≡ whole → last ≡ out ++ slice_range bytes from (length bytes) → last ≡ whole
unfolding filled
fields_end map sections bytes fields i from out last whole all before is =
    is ∙ ap (λ xs. out ++ xs) (take_all (length bytes - from) (drop from bytes) (le_of_eq (length-drop from bytes))) ∙ ap (λ xs. out ++ xs) (sym (at_drop_all (filled map sections bytes from) fields i all)) ∙ before

none_left : (map : SymbolMap) (sections : LaidSections) (number place : ℕ) (field : Field) (terms : List Term) (total value : ℕ) (count : ℕ → ℕ)
    → option_map count (constant_by terms total) ≡ Some value → reference_by map sections number place field terms total ≡ None
none_left map sections number place field [] total value count e = refl
none_left map sections number place field (term ∷ terms) total value count e = absurd cc

-- a field with a value has no relocation
pub valued : (map : SymbolMap) (sections : LaidSections) (number value : ℕ) (section : SectionOf LaidItem) (field : Field) → held_value map sections field ≡ Some value
    → field_relocation map sections number section field ≡ None
unfolding held_value field_relocation
valued map sections number value section field e =
    let made = settled (told_in_field map sections field) field.form in
    rw (none_left map sections number (field_place section field) field made.terms made.constant value (counted field.size field.role) e) refl

-- the same, whatever the value is
pub has_no_relocation : (map : SymbolMap) (sections : LaidSections) (number : ℕ) (section : SectionOf LaidItem) (field : Field) → is_some (held_value map sections field) ≡ true
    → field_relocation map sections number section field ≡ None
has_no_relocation map sections number section field has = by (held_value map sections field) refl has
  where
    by : (found : Option ℕ) → held_value map sections field ≡ found → is_some found ≡ true → field_relocation map sections number section field ≡ None
    by None is some = cc
    by (Some value) is some = valued map sections number value section field is

cons_is : {Y : Type 0} (one : Option Y) (rest : List Y) → cons_option one rest ≡ option_to_list one ++ rest
cons_is None rest = refl
cons_is (Some y) rest = refl

-- what one more adds is put
pub filter_step : {X Y : Type 0} (f : X → Option Y) (xs : List X) (i : ℕ) (x : X) (out more whole : List Y) → i < length xs → x ≡ get_or xs i x
    → out ++ filter_map f (drop i xs) ≡ whole → more ≡ out ++ option_to_list (f x) → more ++ filter_map f (drop (i + 1) xs) ≡ whole
filter_step f xs i x out more whole inside is before put =
    let rest = filter_map f (drop (i + 1) xs) in
    let head : filter_map f (drop i xs) ≡ option_to_list (f x) ++ rest =
    at_drop_more (filter_map f) xs i x inside ∙ ap (λ y. filter_map f (y ∷ drop (i + 1) xs)) (sym is) ∙ cons_is (f x) rest in
    ap (λ ys. ys ++ rest) put ∙ append_assoc out (option_to_list (f x)) rest ∙ ap (λ ys. out ++ ys) (sym head) ∙ before
