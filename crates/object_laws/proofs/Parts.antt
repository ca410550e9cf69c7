-- What a relocation is made of: its kind, and the symbol that its form adds.
use Rattle.std.proofs.Common.{◌≡◌, ◌⊎◌, ℕ, ◌+◌, ◌-◌, ◌^◌, ◌==◌, ◌<◌, ◌&&◌, ◌||◌, not, Bool, true, false, cond, List, [], ◌∷◌, Option, None, Some, length, refl, ap, subst, inl, inr, arith, zero, suc}
use Rattle.std.specs.Prelude.{slice_get, option_map, option_and_then}
use Rattle.std.proofs.lemmas.Bool.Decides.{nat_tests}
use Rattle.asm_expr.specs.declared.forms.Term.{Term}
use Rattle.asm_expr.specs.Forms.{term_of}
use Rattle.asm_expr.specs.Knowledge.{Told, absent, label}
use Rattle.asm_frags.specs.declared.fields.Field.{Field}
use Rattle.asm_frags.specs.SectionOf.{SectionOf}
use Rattle.asm_symbols.specs.declared.entries.Symbol.{Symbol}
use Rattle.asm_symbols.specs.declared.entries.Meaning.{Meaning}
use Rattle.asm_symbols.specs.declared.entries.Meaning.TheVariants as meaning
use Rattle.asm_symbols.specs.declared.entries.Spot.{Spot}
use Rattle.asm_symbols.specs.SymbolMap.{SymbolMap}
use Rattle.item_rows.specs.Links.{is_suffixed}
use Rattle.asm_relax.specs.FieldValues.{told_beside, less}
use Rattle.asm_relax.specs.Final.{address_of, spot_told, final_meaning, final_told}
use Rattle.asm_relax.specs.Settling.{LaidItem, LaidSections}
use Rattle.elf_symbols.specs.SymbolValues.{has_flag, is_flagged}
use Rattle.elf_symbols.specs.declared.targets.Target.TheVariants.{OfSection, OfSymbol}
use Rattle.elf_object.specs.declared.references.SymbolReference.{SymbolReference}
use Rattle.elf_object.specs.declared.references.Reference.{Reference}
use Rattle.elf_object.specs.declared.relocations.Relocation.{Relocation}
use Rattle.elf_object.specs.declared.relocations.RelocationKind.{RelocationKind}
use Rattle.elf_object.specs.Relocations.{merge, kind_for, symbol_reference, label_reference, meaning_reference, reference_at, reference_found, own_address, reference, relative, is_plus, is_minus, minus_one, reference_by, final_reference, relocation_with, relocation, field_place, field_relocation}
use Rattle.object_laws.specs.FieldSymbols.{is_local_symbol}

-- what is mapped is there, and so is what it is made of
mapped : {A B : Type 0} {Goal : Type 0} (f : A → B) (o : Option A) (y : B) → option_map f o ≡ Some y → ((x : A) → o ≡ Some x → f x ≡ y → Goal) → Goal
mapped f None y is go = absurd cc
mapped f (Some x) y is go = go x refl cc

then_got : {A B : Type 0} {Goal : Type 0} (f : A → Option B) (o : Option A) (y : B) → option_and_then f o ≡ Some y → ((x : A) → o ≡ Some x → f x ≡ Some y → Goal) → Goal
then_got f None y is go = absurd cc
then_got f (Some x) y is go = go x refl is

known : {A : Type 0} {Goal : Type 0} (b : Bool) (x y : Option A) (z : A) → cond b x y ≡ Some z → (b ≡ true → x ≡ Some z → Goal) → (b ≡ false → y ≡ Some z → Goal) → Goal
known true x y z is first second = first refl is
known false x y z is first second = second refl is

nothing : {A : Type 0} {Goal : Type 0} (z : A) → None ≡ Some z → Goal
nothing z is = absurd cc

some_same : {A : Type 0} {x y : A} → Some x ≡ Some y → x ≡ y
some_same e = cc

pub both_true : (a b : Bool) → (a && b) ≡ true → (a ≡ true) × (b ≡ true)
both_true true b h = (refl, h)
both_true false b h = absurd cc

got_inside : {A : Type 0} (xs : List A) (i : ℕ) (x : A) → slice_get xs i ≡ Some x → i < length xs
got_inside [] i x is = absurd cc
got_inside (y ∷ xs) zero x is = omega arith
got_inside (y ∷ xs) (suc i) x is = let inner = got_inside xs i x is in omega arith

-- THE KIND

-- what a relocation is made of: what is left of its form, and its kind
pub record IsMade (map : SymbolMap) (sections : LaidSections) (number : ℕ) (section : SectionOf LaidItem) (field : Field) (r : Relocation) (found : Reference) (kind : RelocationKind) : Type 0 where
  pub there : final_reference map sections number (field_place section field) field ≡ Some found
  pub chosen : kind_for found.relative field.role found.local field.size ≡ Some kind
  pub made : relocation_with (field_place section field) field found kind ≡ r

pub parts_of : (map : SymbolMap) (sections : LaidSections) (number : ℕ) (section : SectionOf LaidItem) (field : Field) (r : Relocation) → field_relocation map sections number section field ≡ Some r
    → (found : Reference) × (kind : RelocationKind) × IsMade map sections number section field r found kind
unfolding field_relocation
parts_of map sections number section field r is =
    let place = field_place section field in
    then_got (relocation place field) (final_reference map sections number place field) r is (λ found there same.
    mapped (relocation_with place field found) (kind_for found.relative field.role found.local field.size) r same (λ kind chosen made.
    (found, kind, record { there = there; chosen = chosen; made = made })))

-- THE SYMBOL

-- a target and a number are the symbol of this index, which is known as this, and local or not; something of the symbol
-- itself is asked for, or not
pub record IsOf (sections : LaidSections) (itself local : Bool) (told : Told) (index : ℕ) (at : SymbolReference) : Type 0 where
  pub same : at.local ≡ local
  pub global : local ≡ false → at.target ≡ OfSymbol index
  pub suffixed : itself ≡ true → at.target ≡ OfSymbol index
  pub merged : (number address : ℕ) → told ≡ label number address → is_flagged sections merge number ≡ true → at.target ≡ OfSymbol index
  pub other : (number address : ℕ) → told ≡ label number address → is_flagged sections merge number ≡ false → local ≡ true → itself ≡ false → at.target ≡ OfSection number
  pub own_section : (number : ℕ) → at.target ≡ OfSection number → told ≡ label number at.addend
  pub own_name : (other : ℕ) → at.target ≡ OfSymbol other → (other ≡ index) × (at.addend ≡ 0)

module _ (sections : LaidSections) (itself local : Bool) (index : ℕ) where
  -- the section of a label, if it is one, may not stand for it
  abbrev NeedsName : Told → Type 0
  NeedsName told = (number address : ℕ) → told ≡ label number address → is_flagged sections merge number ≡ false → local ≡ true → itself ≡ false → ⊥

  by_name : (told : Told) → NeedsName told → IsOf sections itself local told index (symbol_reference local (OfSymbol index) 0)
  by_name told needs = record {
    same = refl;
    global = λ _. refl;
    suffixed = λ _. refl;
    merged = λ number address _ _. refl;
    other = λ number address known unmerged local_so bare. absurd (needs number address known unmerged local_so bare);
    own_section = λ number e. absurd cc;
    own_name = λ other e. let same : other ≡ index = cc in (same, refl);
  }

  is_bare : local ≡ true → itself ≡ false → (spot : Spot) (section : SectionOf LaidItem) → slice_get sections spot.place.section ≡ Some section → has_flag merge section ≡ false
      → IsOf sections itself local (spot_told sections spot) index
      (symbol_reference local (OfSection spot.place.section) (address_of sections spot.place.section spot.place.place.item spot.place.place.offset))
  is_bare local_so bare spot section there unmerged = record {
    same = refl;
    global = λ e. absurd cc;
    suffixed = λ e. absurd cc;
    merged = λ number address told flagged.
        let same : spot.place.section ≡ number = cc in
        let flag : is_flagged sections merge spot.place.section ≡ false = rw there unmerged in
        absurd cc;
    other = λ number address told unflagged _ _. let same : spot.place.section ≡ number = cc in rw same refl;
    own_section = λ number e. let same : spot.place.section ≡ number = cc in rw same refl;
    own_name = λ other e. absurd cc;
  }

  spot_is : (spot : Spot) (section : SectionOf LaidItem) → slice_get sections spot.place.section ≡ Some section → (l i m : Bool) → local ≡ l → itself ≡ i → has_flag merge section ≡ m
      → IsOf sections itself local (spot_told sections spot) index
      (cond (l && not (i || m)) (symbol_reference local (OfSection spot.place.section) (address_of sections spot.place.section spot.place.place.item spot.place.place.offset)) (symbol_reference local (OfSymbol index) 0))
  spot_is spot section there true false false local_so bare unmerged = is_bare local_so bare spot section there unmerged
  spot_is spot section there true false true local_so bare flagged = by_name _ (λ number address known unflagged _ _.
      let same : spot.place.section ≡ number = cc in
      let flag : is_flagged sections merge spot.place.section ≡ true = rw there flagged in
      absurd cc)
  spot_is spot section there true true m local_so suffixed unmerged = by_name _ (λ number address known unflagged _ bare. absurd cc)
  spot_is spot section there false i m global bare unmerged = by_name _ (λ number address known unflagged local_so _. absurd cc)

  label_is : (spot : Spot) (at : SymbolReference) → label_reference itself sections index local spot ≡ Some at → IsOf sections itself local (spot_told sections spot) index at
  label_is spot at is =
      let by_section = symbol_reference local (OfSection spot.place.section) (address_of sections spot.place.section spot.place.place.item spot.place.place.offset) in
      let by_itself = symbol_reference local (OfSymbol index) 0 in
      mapped (λ (section : SectionOf LaidItem). cond (local && not (itself || has_flag merge section)) by_section by_itself) (slice_get sections spot.place.section) at is
      (λ section there made. subst (IsOf sections itself local (spot_told sections spot) index) made (spot_is spot section there local itself (has_flag merge section) refl refl refl))

  assigned_is : (l : Bool) → local ≡ l → (at : SymbolReference) → cond l None (Some (symbol_reference local (OfSymbol index) 0)) ≡ Some at → IsOf sections itself local absent index at
  assigned_is true so at is = absurd cc
  assigned_is false so at is = subst (IsOf sections itself local absent index) (some_same is) (by_name absent (λ number address known _ _ _. absurd cc))

  meaning_is : (what : Meaning) (at : SymbolReference) → meaning_reference itself sections index local what ≡ Some at → IsOf sections itself local (final_meaning sections what) index at
  meaning_is meaning.Undefined at is = subst (IsOf sections itself local absent index) (some_same is) (by_name absent (λ number address known _ _ _. absurd cc))
  meaning_is (meaning.Label spot) at is = label_is spot at is
  meaning_is (meaning.Space spot) at is = label_is spot at is
  meaning_is (meaning.Common size align) at is = subst (IsOf sections itself local absent index) (some_same is) (by_name absent (λ number address known _ _ _. absurd cc))
  meaning_is (meaning.Assigned made) at is = assigned_is local refl at is

module _ (map : SymbolMap) (sections : LaidSections) (field : Field) where
  told_there : (index : ℕ) (symbol : Symbol) → slice_get map.symbols index ≡ Some symbol → final_meaning sections symbol.meaning ≡ final_told map sections index
  unfolding final_told
  told_there index symbol there = rw there refl

  -- what is found for a symbol of the map
  pub record IsFound (index : ℕ) (symbol : Symbol) (at : SymbolReference) : Type 0 where
    pub there : slice_get map.symbols index ≡ Some symbol
    pub inside : index < length map.symbols
    pub stands : IsOf sections (is_suffixed field.role.suffix) (is_local_symbol symbol) (final_told map sections index) index at

  pub found_is : (index : ℕ) (at : SymbolReference) → reference_found map sections field index ≡ Some at → (symbol : Symbol) × IsFound index symbol at
  unfolding reference_found
  found_is index at is =
      then_got (reference_at (is_suffixed field.role.suffix) sections index) (slice_get map.symbols index) at is (λ symbol there made. (
        symbol,
        record {
          there = there;
          inside = got_inside map.symbols index symbol there;
          stands = subst (λ (told : Told). IsOf sections (is_suffixed field.role.suffix) (is_local_symbol symbol) told index at) (told_there index symbol there)
              (meaning_is sections (is_suffixed field.role.suffix) (is_local_symbol symbol) index symbol.meaning at made);
        },
      ))

  -- THE TERMS

  -- two terms, of which one is added and one taken away
  abbrev pub ArePair : List Term → ℕ → ℕ → Type 0
  ArePair terms index from = (terms ≡ term_of index 1 ∷ term_of from minus_one ∷ []) ⊎ (terms ≡ term_of from minus_one ∷ term_of index 1 ∷ [])

  -- a symbol alone
  pub record IsAlone (terms : List Term) (total : ℕ) (found : Reference) (index : ℕ) (at : SymbolReference) : Type 0 where
    pub are : terms ≡ term_of index 1 ∷ []
    pub there : reference_found map sections field index ≡ Some at
    pub made : reference false total at ≡ found

  -- a symbol less a place of the section of this number
  pub record IsLess (number place : ℕ) (terms : List Term) (total : ℕ) (found : Reference) (index from address : ℕ) (at : SymbolReference) : Type 0 where
    pub are : ArePair terms index from
    pub own : own_address number (told_beside map sections field from) ≡ Some address
    pub there : reference_found map sections field index ≡ Some at
    pub made : reference true (less (total + place) address) at ≡ found

  is_number : (coefficient n : ℕ) → (coefficient == n) ≡ true → coefficient ≡ n
  is_number coefficient n e = grind (arith, nat_tests)

  plus_term : (term : Term) → is_plus term ≡ true → term ≡ term_of term.symbol 1
  plus_term term e = rw (is_number term.coefficient 1 e) refl

  minus_term : (term : Term) → is_minus term ≡ true → term ≡ term_of term.symbol minus_one
  minus_term term e = rw (is_number term.coefficient (2 ^ 64 - 1) e) refl

  module _ (number place : ℕ) (total : ℕ) (got : Reference) (Goal : Type 0) where
    -- what to do where the form is of the one shape, and of the other
    abbrev Alone : List Term → Type 0
    Alone terms = (index : ℕ) (at : SymbolReference) → IsAlone terms total got index at → Goal

    abbrev Less : List Term → Type 0
    Less terms = (index from address : ℕ) (at : SymbolReference) → IsLess number place terms total got index from address at → Goal

    less_is : (terms : List Term) (index from : ℕ) → ArePair terms index from → relative map sections number place field index from total ≡ Some got → Less terms → Goal
    less_is terms index from are is go =
        then_got (λ address. option_map (reference true (less (total + place) address)) (reference_found map sections field index)) (own_address number (told_beside map sections field from)) got is
        (λ address own second. mapped (reference true (less (total + place) address)) (reference_found map sections field index) got second (λ at there made.
        go index from address at (record { are = are; own = own; there = there; made = made })))

    pub by_terms : (terms : List Term) → reference_by map sections number place field terms total ≡ Some got → Alone terms → Less terms → Goal
    by_terms [] is alone pairs = absurd cc
    by_terms (term ∷ []) is alone pairs = known (is_plus term) _ _ got is
        (λ plus there. mapped (reference false total) (reference_found map sections field term.symbol) got there (λ at found made.
        alone term.symbol at (record { are = ap (λ (t : Term). t ∷ []) (plus_term term plus); there = found; made = made })))
        (λ none later. nothing got later)
    by_terms (one ∷ other ∷ []) is alone pairs = known (is_plus one && is_minus other) _ _ got is
        (λ first there.
        let (plus, minus) = both_true (is_plus one) (is_minus other) first in
        less_is (one ∷ other ∷ []) one.symbol other.symbol (inl (two (plus_term one plus) (minus_term other minus))) there pairs)
        (λ second later. known (is_minus one && is_plus other) _ _ got later
        (λ first there.
        let (minus, plus) = both_true (is_minus one) (is_plus other) first in
        less_is (one ∷ other ∷ []) other.symbol one.symbol (inr (two (minus_term one minus) (plus_term other plus))) there pairs)
        (λ third none. nothing got none))
      where
        two : {a b c d : Term} → a ≡ c → b ≡ d → a ∷ b ∷ [] ≡ c ∷ d ∷ []
        two first second = cc
    by_terms (one ∷ other ∷ third ∷ more) is alone pairs = absurd cc
