-- Offsets and addends of relocations are numbers modulo 2 ^ 64.
use Rattle.std.proofs.Common.{◌≡◌, ℕ, zero, suc, ◌+◌, ◌-◌, ◌^◌, ◌<◌, ◌&&◌, Bool, true, false, cond, List, [], ◌∷◌, Option, None, Some, ap, ◌∙◌, subst, arith, mod-lt}
use Rattle.std.proofs.lemmas.Option.{option_and_then_some}
use Rattle.std.specs.Prelude.{slice_get, option_map, filter_map}
use Rattle.std.specs.List.{cons_option}
use Rattle.asm_expr.specs.declared.forms.Term.{Term}
use Rattle.asm_expr.specs.Forms.{wrapped}
use Rattle.asm_expr.specs.Settled.{settled}
use Rattle.asm_frags.specs.declared.fields.Field.{Field}
use Rattle.asm_frags.specs.declared.fields.FieldSize.{FieldSize}
use Rattle.asm_frags.specs.declared.roles.FieldRole.{FieldRole}
use Rattle.asm_frags.specs.Fields.{width, is_distance}
use Rattle.asm_frags.specs.SectionOf.{SectionOf}
use Rattle.asm_symbols.specs.SymbolMap.{SymbolMap}
use Rattle.asm_relax.specs.FieldValues.{told_beside, told_in_field, less, counted_bytes, counted}
use Rattle.asm_relax.specs.Final.{shift_in, address_in}
use Rattle.asm_relax.specs.Settling.{LaidItem, LaidSections}
use Rattle.elf_object.specs.declared.references.Reference.{Reference}
use Rattle.elf_object.specs.declared.references.SymbolReference.{SymbolReference}
use Rattle.elf_object.specs.declared.relocations.Relocation.{Relocation}
use Rattle.elf_object.specs.Contents.{filed_fields, section_relocations, relocations_from}
use Rattle.elf_object.specs.Relocations.{reference_found, own_address, reference, relative, is_plus, is_minus, reference_by, final_reference, relocation_with, relocation, kind_for, field_place, field_relocation}
use Rattle.object_laws.proofs.ObjectParts.{mapped}

-- r_offset and r_addend are Elf64_Xwords
pub record RelocationFits (r : Relocation) : Type 0 where
  pub offset : r.offset < 2 ^ 64
  pub addend : r.addend < 2 ^ 64

small : (n : ℕ) → wrapped n < 2 ^ 64
small n = mod-lt n (omega arith)

-- the addend of a reference is small
abbrev Small : Reference → Type 0
Small found = found.addend < 2 ^ 64

referred : (is_relative : Bool) (n : ℕ) (o : Option SymbolReference) (got : Reference) → option_map (reference is_relative n) o ≡ Some got → Small got
referred is_relative n o got is = mapped (reference is_relative n) o got is (λ at there made. subst Small made (small (n + at.addend)))

relative_small : (map : SymbolMap) (sections : LaidSections) (number place : ℕ) (field : Field) (symbol from total : ℕ) (got : Reference)
    → relative map sections number place field symbol from total ≡ Some got → Small got
relative_small map sections number place field symbol from total got is =
    option_and_then_some (λ (address : ℕ). option_map (reference true (less (total + place) address)) (reference_found map sections field symbol))
    (own_address number (told_beside map sections field from)) got is
    (λ address own second. referred true (less (total + place) address) (reference_found map sections field symbol) got second)

one_of_two : {A : Type 0} {Goal : Type 0} (b : Bool) (x y : Option A) (z : A) → cond b x y ≡ Some z → (x ≡ Some z → Goal) → (y ≡ Some z → Goal) → Goal
one_of_two true x y z is first second = first is
one_of_two false x y z is first second = second is

nothing : {A : Type 0} {Goal : Type 0} (z : A) → None ≡ Some z → Goal
nothing z is = absurd cc

terms_small : (map : SymbolMap) (sections : LaidSections) (number place : ℕ) (field : Field) (terms : List Term) (total : ℕ) (got : Reference)
    → reference_by map sections number place field terms total ≡ Some got → Small got
terms_small map sections number place field [] total got is = absurd cc
terms_small map sections number place field (term ∷ []) total got is =
    one_of_two (is_plus term) _ _ got is (referred false total (reference_found map sections field term.symbol) got) (nothing got)
terms_small map sections number place field (one ∷ other ∷ []) total got is =
    one_of_two (is_plus one && is_minus other) _ _ got is (relative_small map sections number place field one.symbol other.symbol total got)
    (λ second. one_of_two (is_minus one && is_plus other) _ _ got second (relative_small map sections number place field other.symbol one.symbol total got) (nothing got))
terms_small map sections number place field (one ∷ other ∷ third ∷ more) total got is = absurd cc

either_small : (b : Bool) (x y : ℕ) → x < 2 ^ 64 → y < 2 ^ 64 → cond b x y < 2 ^ 64
either_small true x y first second = first
either_small false x y first second = second

counted_small : (size : FieldSize) (role : FieldRole) (value : ℕ) → value < 2 ^ 64 → counted size role value < 2 ^ 64
counted_small size role value low =
    either_small (is_distance role.kind) (less value (counted_bytes size role)) value (small (value + (2 ^ 64 - counted_bytes size role))) low

place_small : (section : SectionOf LaidItem) (field : Field) → field_place section field < 2 ^ 64
place_small section field =
    let place = address_in section.items field.item field.offset in
    either_small field.in_item (less place (width field.size)) place (small (place + (2 ^ 64 - width field.size))) (small (field.offset + shift_in section.items field.item))

field_fits : (map : SymbolMap) (sections : LaidSections) (number : ℕ) (section : SectionOf LaidItem) (field : Field) (r : Relocation)
    → field_relocation map sections number section field ≡ Some r → RelocationFits r
unfolding field_relocation
field_fits map sections number section field r is =
    let place = field_place section field in
    let made = settled (told_in_field map sections field) field.form in
    option_and_then_some (relocation place field) (final_reference map sections number place field) r is
    (λ found there same. mapped (relocation_with place field found) (kind_for found.relative field.role found.local field.size) r same (λ kind chosen made_so.
    subst RelocationFits made_so (record {
      offset = place_small section field;
      addend = counted_small field.size field.role found.addend (terms_small map sections number place field made.terms made.constant found there);
    })))

in_cons : {A : Type 0} {Goal : Type 0} (one : Option A) (ys : List A) (i : ℕ) (x : A) → slice_get (cons_option one ys) i ≡ Some x → (one ≡ Some x → Goal)
    → ((j : ℕ) → slice_get ys j ≡ Some x → Goal) → Goal
in_cons None ys i x is first second = second i is
in_cons (Some y) ys zero x is first second = first is
in_cons (Some y) ys (suc i) x is first second = second i is

fields_fit : (map : SymbolMap) (sections : LaidSections) (number : ℕ) (section : SectionOf LaidItem) (fields : List Field) (i : ℕ) (r : Relocation)
    → slice_get (filter_map (field_relocation map sections number section) fields) i ≡ Some r → RelocationFits r
fields_fit map sections number section [] i r is = absurd cc
fields_fit map sections number section (field ∷ fields) i r is =
    in_cons (field_relocation map sections number section field) (filter_map (field_relocation map sections number section) fields) i r is
    (field_fits map sections number section field r) (λ j there. fields_fit map sections number section fields j r there)

-- each relocation fits
pub relocations_fit : (map : SymbolMap) (all : LaidSections) (number : ℕ) (sections : LaidSections) (k i : ℕ) (own : List Relocation) (r : Relocation)
    → slice_get (relocations_from map all number sections) k ≡ Some own → slice_get own i ≡ Some r → RelocationFits r
relocations_fit map all number [] k i own r there is = absurd cc
relocations_fit map all number (section ∷ sections) zero i own r there is =
    let same : section_relocations map all number section ≡ own = cc in
    fields_fit map all number section (filed_fields section) i r (ap (λ (xs : List Relocation). slice_get xs i) same ∙ is)
relocations_fit map all number (section ∷ sections) (suc k) i own r there is = relocations_fit map all (number + 1) sections k i own r there is
