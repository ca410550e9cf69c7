-- Just the fields without a value have relocations, one of each.
use Rattle.std.proofs.Common.{◌≡◌, ℕ, zero, suc, ◌+◌, ◌||◌, not, Bool, true, false, cond, List, [], ◌∷◌, ◌++◌, Option, None, Some, take, drop, map, option_map, refl, sym, ap, ◌∙◌, subst, arith}
use Rattle.std.specs.Prelude.{slice_get, filter_map, find, is_some, is_none}
use Rattle.std.specs.List.{cons_option, filter}
use Rattle.std.proofs.lemmas.Option.{same_Some, option_and_then_some}
use Rattle.asm_frags.specs.declared.fields.Field.{Field}
use Rattle.asm_frags.specs.SectionOf.{SectionOf}
use Rattle.asm_symbols.specs.SymbolMap.{SymbolMap}
use Rattle.asm_relax.specs.Faults.{or_later}
use Rattle.asm_relax.specs.FieldValues.{held_value}
use Rattle.asm_relax.specs.Settling.{LaidItem, LaidSections}
use Rattle.elf_object.specs.declared.relocations.Relocation.{Relocation}
use Rattle.elf_object.specs.Contents.{filed_fields, is_lost, section_relocations, relocations_from, relocations_of}
use Rattle.elf_object.specs.FieldRelocations.{is_valueless, RelocationsAreOfFields, SaidFieldsHaveOne, ValuelessFieldsHaveOne, ValuesHaveNone}
use Rattle.elf_object.specs.Faults.{fields_fault, field_fault_in, field_fault_from, object_fault}
use Rattle.elf_object.specs.Relocations.{final_reference, relocation_with, relocation, kind_for, field_place, field_relocation}
use Rattle.elf_object.proofs.FieldLemmas.{valued}

-- FAULTS

-- where there is no fault, neither part has one
no_fault : {E : Type 0} (one other : Option E) → or_later one other ≡ None → (one ≡ None) × (other ≡ None)
no_fault None other none = (refl, none)
no_fault (Some fault) other none = absurd cc

-- the fields of each of the sections have no fault
section_whole : (symbols : SymbolMap) (all : LaidSections) (from : ℕ) (sections : LaidSections) (number : ℕ) (section : SectionOf LaidItem)
    → field_fault_from symbols all from sections ≡ None → slice_get sections number ≡ Some section → field_fault_in symbols all (from + number) section ≡ None
section_whole symbols all from [] number section none is = absurd cc
section_whole symbols all from (s ∷ ss) zero section none is =
    let same : s ≡ section = cc in
    let place : from ≡ from + 0 = omega arith in
    let here = (no_fault (field_fault_in symbols all from s) (field_fault_from symbols all (from + 1) ss) none).0 in
    subst (λ (n : ℕ). field_fault_in symbols all n section ≡ None) place (subst (λ (t : SectionOf LaidItem). field_fault_in symbols all from t ≡ None) same here)
section_whole symbols all from (s ∷ ss) (suc number) section none is =
    let place : from + 1 + number ≡ from + suc number = omega arith in
    let later = (no_fault (field_fault_in symbols all from s) (field_fault_from symbols all (from + 1) ss) none).1 in
    subst (λ (n : ℕ). field_fault_in symbols all n section ≡ None) place (section_whole symbols all (from + 1) ss number section later is)

no_map : {A B : Type 0} (f : A → B) (o : Option A) → option_map f o ≡ None → o ≡ None
no_map f None none = refl
no_map f (Some x) none = absurd cc

-- no field in the file is lost in an object
none_lost : (symbols : SymbolMap) (sections : LaidSections) (number : ℕ) (section : SectionOf LaidItem) → object_fault symbols sections ≡ None → slice_get sections number ≡ Some section
    → find (is_lost symbols sections number section) (filed_fields section) ≡ None
unfolding object_fault fields_fault
none_lost symbols sections number section none is =
    let place : 0 + number ≡ number = omega arith in
    let fields = (no_fault _ _ (no_fault _ _ none).1).0 in
    no_map _ (find (is_lost symbols sections number section) (filed_fields section))
    (subst (λ (n : ℕ). field_fault_in symbols sections n section ≡ None) place (section_whole symbols sections 0 sections number section fields is))

-- what does not stand in front is not so, and none of the others is
passed : {A : Type 0} (b : Bool) (x : A) (rest : Option A) → cond b (Some x) rest ≡ None → (b ≡ false) × (rest ≡ None)
passed true x rest none = absurd cc
passed false x rest none = (refl, none)

-- the element at an index is not so either
not_so : {A : Type 0} (p : A → Bool) (xs : List A) (i : ℕ) (x : A) → find p xs ≡ None → slice_get xs i ≡ Some x → p x ≡ false
not_so p [] i x none is = absurd cc
not_so p (y ∷ ys) zero x none is =
    let same : y ≡ x = cc in
    subst (λ (z : _). p z ≡ false) same (passed (p y) y (find p ys) none).0
not_so p (y ∷ ys) (suc i) x none is = not_so p ys i x (passed (p y) y (find p ys) none).1 is

-- ALL

-- one field more has a relocation where it has no value
one_more : {A : Type 0} (said_of : A → Option Relocation) (field : A) (held : Option ℕ) (said : Option Relocation) (own : List Relocation) (left : List A) → said_of field ≡ said
    → not (is_some held || is_some said) ≡ false → ((value : ℕ) → held ≡ Some value → said ≡ None) → map Some own ≡ map said_of left
    → map Some (cons_option said own) ≡ map said_of (cond (is_none held) (field ∷ left) left)
one_more said_of field None None own left is lost none same = absurd cc
one_more said_of field None (Some r) own left is lost none same =
    ap (λ (os : List (Option Relocation)). Some r ∷ os) same ∙ ap (λ (o : Option Relocation). o ∷ map said_of left) (sym is)
one_more said_of field (Some value) None own left is lost none same = same
one_more said_of field (Some value) (Some r) own left is lost none same =
    let nothing : Some r ≡ None = none value refl in
    absurd cc

-- the relocations of fields of which none is lost are those of the fields without a value
of_fields : (symbols : SymbolMap) (sections : LaidSections) (number : ℕ) (section : SectionOf LaidItem) (fields : List Field)
    → find (is_lost symbols sections number section) fields ≡ None
    → map Some (filter_map (field_relocation symbols sections number section) fields)
    ≡ map (field_relocation symbols sections number section) (filter (is_valueless symbols sections) fields)
of_fields symbols sections number section [] none = refl
of_fields symbols sections number section (field ∷ fields) none =
    let said_of = field_relocation symbols sections number section in
    let both = passed (is_lost symbols sections number section field) field (find (is_lost symbols sections number section) fields) none in
    one_more said_of field (held_value symbols sections field) (said_of field) (filter_map said_of fields) (filter (is_valueless symbols sections) fields) refl both.0
    (λ value is. valued symbols sections number value section field is) (of_fields symbols sections number section fields both.1)

-- the relocations of a section
relocations_there : (symbols : SymbolMap) (all : LaidSections) (from : ℕ) (sections : LaidSections) (number : ℕ) (section : SectionOf LaidItem)
    → slice_get sections number ≡ Some section → slice_get (relocations_from symbols all from sections) number ≡ Some (section_relocations symbols all (from + number) section)
relocations_there symbols all from [] number section is = absurd cc
relocations_there symbols all from (s ∷ ss) zero section is =
    let same : s ≡ section = cc in
    let place : from ≡ from + 0 = omega arith in
    ap (λ (n : ℕ). Some (section_relocations symbols all n s)) place ∙ ap (λ (t : SectionOf LaidItem). Some (section_relocations symbols all (from + 0) t)) same
relocations_there symbols all from (s ∷ ss) (suc number) section is =
    let place : from + 1 + number ≡ from + suc number = omega arith in
    relocations_there symbols all (from + 1) ss number section is ∙ ap (λ (n : ℕ). Some (section_relocations symbols all n section)) place

own_there : (symbols : SymbolMap) (sections : LaidSections) (number : ℕ) (section : SectionOf LaidItem) → slice_get sections number ≡ Some section
    → slice_get (relocations_of symbols sections) number ≡ Some (section_relocations symbols sections number section)
own_there symbols sections number section is =
    let place : 0 + number ≡ number = omega arith in
    relocations_there symbols sections 0 sections number section is ∙ ap (λ (n : ℕ). Some (section_relocations symbols sections n section)) place

pub relocations_are_of_fields : RelocationsAreOfFields
relocations_are_of_fields symbols sections number section own none is there =
    let same = same_Some (section_relocations symbols sections number section) own (sym (own_there symbols sections number section is) ∙ there) in
    ap (map Some) (sym same) ∙ of_fields symbols sections number section (filed_fields section) (none_lost symbols sections number section none is)

-- ONE

-- the element stands between these
record Between {A : Type 0} (xs front rest : List A) (x : A) : Type 0 where
  entry : ℕ
  there : slice_get xs entry ≡ Some x
  before : take entry xs ≡ front
  behind : drop (entry + 1) xs ≡ rest

between : {A : Type 0} (front rest : List A) (x : A) → Between (front ++ x ∷ rest) front rest x
between [] rest x = record { entry = 0; there = refl; before = refl; behind = refl }
between (y ∷ front) rest x =
    let later = between front rest x in
    let place : suc later.entry + 1 ≡ suc (later.entry + 1) = omega arith in
    record {
      entry = suc later.entry;
      there = later.there;
      before = ap (λ xs. y ∷ xs) later.before;
      behind = ap (λ (n : ℕ). drop n (y ∷ (front ++ x ∷ rest))) place ∙ later.behind;
    }

joined : {A : Type 0} (o : Option A) (xs ys : List A) → cons_option o (xs ++ ys) ≡ cons_option o xs ++ ys
joined None xs ys = refl
joined (Some x) xs ys = refl

-- what is made of an element stands between what is made of those before and behind
split : {A B : Type 0} (f : A → Option B) (xs : List A) (i : ℕ) (x : A) (y : B) → slice_get xs i ≡ Some x → f x ≡ Some y
    → filter_map f xs ≡ filter_map f (take i xs) ++ y ∷ filter_map f (drop (i + 1) xs)
split f [] i x y is made = absurd cc
split f (z ∷ zs) zero x y is made =
    let same : z ≡ x = cc in
    ap (λ o. cons_option o (filter_map f zs)) (ap f same ∙ made)
split f (z ∷ zs) (suc i) x y is made =
    let place : i + 1 ≡ suc i = omega arith in
    let later : suc i + 1 ≡ suc (suc i) = omega arith in
    let rest = filter_map f (drop (suc i) zs) in
    ap (cons_option (f z)) (split f zs i x y is made ∙ ap (λ (n : ℕ). filter_map f (take i zs) ++ y ∷ filter_map f (drop n zs)) place)
    ∙ joined (f z) (filter_map f (take i zs)) (y ∷ rest)
    ∙ ap (λ (n : ℕ). cons_option (f z) (filter_map f (take i zs)) ++ y ∷ filter_map f (drop n (z ∷ zs))) (sym later)

-- where what is mapped is there, so is what it is made of
made_of : {A B Goal : Type 0} (f : A → B) (o : Option A) (y : B) → option_map f o ≡ Some y → ((x : A) → f x ≡ y → Goal) → Goal
made_of f None y is go = absurd cc
made_of f (Some x) y is go = go x cc

-- a relocation stands where its field does
stands_there : (symbols : SymbolMap) (sections : LaidSections) (number : ℕ) (section : SectionOf LaidItem) (field : Field) (r : Relocation)
    → field_relocation symbols sections number section field ≡ Some r → r.offset ≡ field_place section field
unfolding field_relocation
stands_there symbols sections number section field r is =
    let place = field_place section field in
    option_and_then_some (relocation place field) (final_reference symbols sections number place field) r is
    (λ found there same. made_of (relocation_with place field found) (kind_for found.relative field.role found.local field.size) r same
    (λ kind made. ap (λ (one : Relocation). one.offset) (sym made)))

pub said_have_one : SaidFieldsHaveOne
said_have_one symbols sections number index section field r filed says =
    let said_of = field_relocation symbols sections number section in
    let all : filed_fields section ≡ section.fields = ap (λ (b : Bool). cond b [] section.fields) filed.takes_bytes in
    let front = filter_map said_of (take index section.fields) in
    let rest = filter_map said_of (drop (index + 1) section.fields) in
    let parts : section_relocations symbols sections number section ≡ front ++ r ∷ rest =
    ap (filter_map said_of) all ∙ split said_of section.fields index field r filed.there says in
    let one : Between (section_relocations symbols sections number section) front rest r =
    subst (λ (xs : List Relocation). Between xs front rest r) (sym parts) (between front rest r) in
    record {
      says = says;
      place = stands_there symbols sections number section field r says;
      own = section_relocations symbols sections number section;
      listed = own_there symbols sections number section filed.found;
      entry = one.entry;
      there = one.there;
      before = one.before;
      behind = one.behind;
    }

-- what is not lost and has no value has a relocation
said_without : {Goal : Type 0} (held : Option ℕ) (said : Option Relocation) → not (is_some held || is_some said) ≡ false → held ≡ None
    → ((r : Relocation) → said ≡ Some r → Goal) → Goal
said_without None None lost none go = absurd cc
said_without None (Some r) lost none go = go r refl
said_without (Some value) said lost none go = absurd cc

pub valueless_have_one : ValuelessFieldsHaveOne
valueless_have_one symbols sections number index section field none filed free =
    let all : filed_fields section ≡ section.fields = ap (λ (b : Bool). cond b [] section.fields) filed.takes_bytes in
    let there : slice_get (filed_fields section) index ≡ Some field = ap (λ (fields : List Field). slice_get fields index) all ∙ filed.there in
    let kept = not_so (is_lost symbols sections number section) (filed_fields section) index field (none_lost symbols sections number section none filed.found) there in
    said_without (held_value symbols sections field) (field_relocation symbols sections number section field) kept free
    (λ r says. (r, said_have_one symbols sections number index section field r filed says))

pub values_have_none : ValuesHaveNone
values_have_none symbols sections number value section field is = valued symbols sections number value section field is
