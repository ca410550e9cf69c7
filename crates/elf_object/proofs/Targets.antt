-- What relocations name is there.
use Rattle.std.proofs.Common.{◌≡◌, ℕ, zero, suc, ◌+◌, ◌<◌, ◌&&◌, ◌||◌, not, Bool, true, false, cond, List, [], ◌∷◌, Option, None, Some, length, refl, ap, ◌∙◌, subst, arith}
use Rattle.std.specs.Prelude.{slice_get, option_map, option_and_then, filter_map}
use Rattle.std.specs.List.{cons_option}
use Rattle.asm_expr.specs.declared.forms.Term.{Term}
use Rattle.asm_expr.specs.Settled.{settled}
use Rattle.asm_frags.specs.declared.fields.Field.{Field}
use Rattle.asm_frags.specs.SectionOf.{SectionOf}
use Rattle.asm_symbols.specs.declared.entries.Symbol.{Symbol}
use Rattle.asm_symbols.specs.declared.entries.Meaning.{Meaning}
use Rattle.asm_symbols.specs.declared.entries.Meaning.TheVariants as meaning
use Rattle.asm_symbols.specs.declared.entries.Spot.{Spot}
use Rattle.asm_symbols.specs.SymbolMap.{SymbolMap}
use Rattle.item_rows.specs.Links.{is_suffixed}
use Rattle.asm_relax.specs.FieldValues.{told_beside, told_in_field, less}
use Rattle.asm_relax.specs.Final.{address_of}
use Rattle.asm_relax.specs.Settling.{LaidItem, LaidSections}
use Rattle.elf_object.specs.declared.references.SymbolReference.{SymbolReference}
use Rattle.elf_object.specs.declared.references.Reference.{Reference}
use Rattle.elf_object.specs.declared.relocations.Relocation.{Relocation}
use Rattle.elf_symbols.specs.declared.targets.Target.{Target}
use Rattle.elf_symbols.specs.declared.targets.Target.TheVariants.{OfSection, OfSymbol}
use Rattle.elf_object.specs.Contents.{filed_fields, section_relocations, relocations_from}
use Rattle.elf_object.specs.Relocations.{merge, symbol_reference, label_reference, meaning_reference, reference_at, reference_found, own_address, reference, direct, relative, pair, is_plus, is_minus, reference_by, final_reference, relocation_with, relocation, kind_for, field_place, field_relocation}
use Rattle.elf_symbols.specs.SymbolValues.{has_flag}

-- the section is there, or the symbol
abbrev pub Sits : SymbolMap → LaidSections → Target → Type 0
Sits map sections (OfSection number) = number < length sections
Sits map sections (OfSymbol index) = (symbol : Symbol) × (slice_get map.symbols index ≡ Some symbol)

pub got_inside : {A : Type 0} (xs : List A) (i : ℕ) (x : A) → slice_get xs i ≡ Some x → i < length xs
got_inside [] i x is = absurd cc
got_inside (y ∷ xs) zero x is = omega arith
got_inside (y ∷ xs) (suc i) x is = let inner = got_inside xs i x is in omega arith

-- where what is mapped is there, so is what it is made of
pub mapped : {A B : Type 0} {Goal : Type 0} (f : A → B) (o : Option A) (y : B) → option_map f o ≡ Some y → ((x : A) → o ≡ Some x → f x ≡ y → Goal) → Goal
mapped f None y is go = absurd cc
mapped f (Some x) y is go = go x refl cc

pub then_got : {A B : Type 0} {Goal : Type 0} (f : A → Option B) (o : Option A) (y : B) → option_and_then f o ≡ Some y → ((x : A) → o ≡ Some x → f x ≡ Some y → Goal) → Goal
then_got f None y is go = absurd cc
then_got f (Some x) y is go = go x refl is

pub chosen : {A : Type 0} (P : A → Type 0) (b : Bool) (x y : A) → P x → P y → P (cond b x y)
chosen P true x y first second = first
chosen P false x y first second = second

spot_sits : (map : SymbolMap) (sections : LaidSections) (itself : Bool) (index : ℕ) (local : Bool) (spot : Spot) (got : SymbolReference) → Sits map sections (OfSymbol index)
    → label_reference itself sections index local spot ≡ Some got → Sits map sections got.target
spot_sits map sections itself index local spot got own is =
    let by_section = symbol_reference local (OfSection spot.place.section) (address_of sections spot.place.section spot.place.place.item spot.place.place.offset) in
    let by_itself = symbol_reference local (OfSymbol index) 0 in
    mapped (λ (section : SectionOf LaidItem). cond (local && not (itself || has_flag merge section)) by_section by_itself)
    (slice_get sections spot.place.section) got is (λ section there made.
    subst (λ (a : SymbolReference). Sits map sections a.target) made
    (chosen (λ (a : SymbolReference). Sits map sections a.target) (local && not (itself || has_flag merge section)) by_section by_itself
    (got_inside sections spot.place.section section there) own))

-- an assigned symbol is named by itself, if it is named
assigned_sits : (map : SymbolMap) (sections : LaidSections) (index : ℕ) (local : Bool) (symbol : Symbol) (got : SymbolReference) → slice_get map.symbols index ≡ Some symbol
    → cond local None (Some (symbol_reference local (OfSymbol index) 0)) ≡ Some got → Sits map sections got.target
assigned_sits map sections index true symbol got there is = absurd cc
assigned_sits map sections index false symbol got there is =
    let same : symbol_reference false (OfSymbol index) 0 ≡ got = cc in
    subst (λ (a : SymbolReference). Sits map sections a.target) same (symbol, there)

meaning_sits : (map : SymbolMap) (sections : LaidSections) (itself : Bool) (index : ℕ) (local : Bool) (symbol : Symbol) (what : Meaning) (got : SymbolReference) → slice_get map.symbols index ≡ Some symbol
    → meaning_reference itself sections index local what ≡ Some got → Sits map sections got.target
meaning_sits map sections itself index local symbol meaning.Undefined got there is =
    subst (λ (a : SymbolReference). Sits map sections a.target) (some_same is) (symbol, there)
  where
    some_same : {A : Type 0} {x y : A} → Some x ≡ Some y → x ≡ y
    some_same e = cc
meaning_sits map sections itself index local symbol (meaning.Label spot) got there is =
    spot_sits map sections itself index local spot got (symbol, there) is
meaning_sits map sections itself index local symbol (meaning.Space spot) got there is =
    spot_sits map sections itself index local spot got (symbol, there) is
meaning_sits map sections itself index local symbol (meaning.Common size align) got there is =
    subst (λ (a : SymbolReference). Sits map sections a.target) (some_same is) (symbol, there)
  where
    some_same : {A : Type 0} {x y : A} → Some x ≡ Some y → x ≡ y
    some_same e = cc
meaning_sits map sections itself index local symbol (meaning.Assigned form) got there is = assigned_sits map sections index local symbol got there is

found_sits : (map : SymbolMap) (sections : LaidSections) (field : Field) (index : ℕ) (got : SymbolReference) → reference_found map sections field index ≡ Some got → Sits map sections got.target
unfolding reference_found
found_sits map sections field index got is =
    then_got (reference_at (is_suffixed field.role.suffix) sections index) (slice_get map.symbols index) got is
    (λ symbol there made. meaning_sits map sections (is_suffixed field.role.suffix) index _ symbol symbol.meaning got there made)

direct_sits : (map : SymbolMap) (sections : LaidSections) (field : Field) (symbol total : ℕ) (got : Reference) → direct map sections field symbol total ≡ Some got → Sits map sections got.target
direct_sits map sections field symbol total got is =
    mapped (reference false total) (reference_found map sections field symbol) got is (λ a there made.
    subst (λ (r : Reference). Sits map sections r.target) made (found_sits map sections field symbol a there))

relative_sits : (map : SymbolMap) (sections : LaidSections) (number place : ℕ) (field : Field) (symbol from total : ℕ) (got : Reference)
    → relative map sections number place field symbol from total ≡ Some got → Sits map sections got.target
relative_sits map sections number place field symbol from total got is =
    then_got (λ address. option_map (reference true (less (total + place) address)) (reference_found map sections field symbol)) (own_address number (told_beside map sections field from)) got is
    (λ address own second. mapped (reference true (less (total + place) address)) (reference_found map sections field symbol) got second (λ a there made.
    subst (λ (r : Reference). Sits map sections r.target) made (found_sits map sections field symbol a there)))

one_of_two : {A : Type 0} {Goal : Type 0} (b : Bool) (x y : Option A) (z : A) → cond b x y ≡ Some z → (x ≡ Some z → Goal) → (y ≡ Some z → Goal) → Goal
one_of_two true x y z is first second = first is
one_of_two false x y z is first second = second is

pub nothing : {A : Type 0} {Goal : Type 0} (z : A) → None ≡ Some z → Goal
nothing z is = absurd cc

pair_sits : (map : SymbolMap) (sections : LaidSections) (number place : ℕ) (field : Field) (one other : Term) (total : ℕ) (got : Reference)
    → pair map sections number place field one other total ≡ Some got → Sits map sections got.target
pair_sits map sections number place field one other total got is =
    one_of_two (is_plus one && is_minus other) _ _ got is (relative_sits map sections number place field one.symbol other.symbol total got)
    (λ second. one_of_two (is_minus one && is_plus other) _ _ got second (relative_sits map sections number place field other.symbol one.symbol total got) (nothing got))

terms_sit : (map : SymbolMap) (sections : LaidSections) (number place : ℕ) (field : Field) (terms : List Term) (total : ℕ) (got : Reference)
    → reference_by map sections number place field terms total ≡ Some got → Sits map sections got.target
terms_sit map sections number place field [] total got is = absurd cc
terms_sit map sections number place field (term ∷ []) total got is = one_of_two (is_plus term) _ _ got is (direct_sits map sections field term.symbol total got) (nothing got)
terms_sit map sections number place field (one ∷ other ∷ []) total got is = pair_sits map sections number place field one other total got is
terms_sit map sections number place field (one ∷ other ∷ third ∷ more) total got is = absurd cc

field_sits : (map : SymbolMap) (sections : LaidSections) (number : ℕ) (section : SectionOf LaidItem) (field : Field) (r : Relocation)
    → field_relocation map sections number section field ≡ Some r → Sits map sections r.target
unfolding field_relocation
field_sits map sections number section field r is =
    let place = field_place section field in
    let made = settled (told_in_field map sections field) field.form in
    then_got (relocation place field) (final_reference map sections number place field) r is (λ found there same.
    mapped (λ kind. relocation_with place field found kind) (kind_for found.relative field.role found.local field.size) r same (λ kind chosen made_so.
    subst (λ (x : Relocation). Sits map sections x.target) made_so (terms_sit map sections number place field made.terms made.constant found there)))

in_cons : {A : Type 0} {Goal : Type 0} (one : Option A) (ys : List A) (i : ℕ) (x : A) → slice_get (cons_option one ys) i ≡ Some x → (one ≡ Some x → Goal)
    → ((j : ℕ) → slice_get ys j ≡ Some x → Goal) → Goal
in_cons None ys i x is first second = second i is
in_cons (Some y) ys zero x is first second = first is
in_cons (Some y) ys (suc i) x is first second = second i is

fields_sit : (map : SymbolMap) (sections : LaidSections) (number : ℕ) (section : SectionOf LaidItem) (fields : List Field) (i : ℕ) (r : Relocation)
    → slice_get (filter_map (field_relocation map sections number section) fields) i ≡ Some r → Sits map sections r.target
fields_sit map sections number section [] i r is = absurd cc
fields_sit map sections number section (field ∷ fields) i r is =
    in_cons (field_relocation map sections number section field) (filter_map (field_relocation map sections number section) fields) i r is
    (field_sits map sections number section field r) (λ j there. fields_sit map sections number section fields j r there)

own_sits : (map : SymbolMap) (sections : LaidSections) (number : ℕ) (section : SectionOf LaidItem) (i : ℕ) (r : Relocation)
    → slice_get (section_relocations map sections number section) i ≡ Some r → Sits map sections r.target
own_sits map sections number section i r is = fields_sit map sections number section (filed_fields section) i r is

-- each relocation names what is there
pub all_sit : (map : SymbolMap) (all : LaidSections) (number : ℕ) (sections : LaidSections) (k i : ℕ) (own : List Relocation) (r : Relocation)
    → slice_get (relocations_from map all number sections) k ≡ Some own → slice_get own i ≡ Some r → Sits map all r.target
all_sit map all number [] k i own r there is = absurd cc
all_sit map all number (section ∷ sections) zero i own r there is =
    let same : section_relocations map all number section ≡ own = cc in
    own_sits map all number section i r (ap (λ (xs : List Relocation). slice_get xs i) same ∙ is)
all_sit map all number (section ∷ sections) (suc k) i own r there is = all_sit map all (number + 1) sections k i own r there is
