-- What the linker makes of a relocation is the value of its form.
use Rattle.std.proofs.Common.{◌≡◌, ℕ, ◌+◌, ◌-◌, ◌*◌, ◌^◌, ◌==◌, ◌<◌, ◌≤◌, ◌&&◌, ◌||◌, not, Bool, true, false, cond, List, [], ◌∷◌, Option, None, Some, length, refl, sym, ap, ◌∙◌, subst, arith}
use Rattle.std.specs.Prelude.{slice_get, option_map}
use Rattle.std.specs.Option.{option_map_or}
use Rattle.std.proofs.lemmas.Bool.Decides.{nat_tests}
use Rattle.asm_expr.specs.declared.forms.Term.{Term}
use Rattle.asm_expr.specs.Forms.{Form, wrapped}
use Rattle.asm_expr.specs.FormValues.{value_by, terms_value, KeepsValue}
use Rattle.asm_expr.specs.Knowledge.{Told, absent, constant, label, form}
use Rattle.asm_expr.specs.Settled.{settled}
use Rattle.asm_frags.specs.declared.fields.Field.{Field}
use Rattle.asm_frags.specs.declared.fields.FieldSize.{FieldSize}
use Rattle.asm_frags.specs.declared.fields.FieldSize.TheVariants.{One, Two, Four, Eight}
use Rattle.asm_frags.specs.declared.roles.FieldRole.{FieldRole}
use Rattle.asm_frags.specs.Fields.{own_place, is_distance, width}
use Rattle.asm_frags.specs.SectionOf.{SectionOf}
use Rattle.asm_symbols.specs.declared.entries.Symbol.{Symbol}
use Rattle.asm_symbols.specs.declared.entries.Meaning.{Meaning}
use Rattle.asm_symbols.specs.declared.entries.Meaning.TheVariants as meaning
use Rattle.asm_symbols.specs.declared.entries.Spot.{Spot}
use Rattle.asm_symbols.specs.SymbolMap.{SymbolMap}
use Rattle.item_rows.specs.Links.{is_suffixed, is_linked}
use Rattle.asm_relax.specs.FieldValues.{field_address, place_label, place_told, told_beside, told_in_field, less, counted_bytes, counted}
use Rattle.asm_relax.specs.Final.{address_in, address_of, spot_told, final_meaning, final_told}
use Rattle.asm_relax.specs.Settling.{LaidItem, LaidSections}
use Rattle.elf_symbols.specs.SymbolValues.{has_flag}
use Rattle.elf_symbols.specs.declared.targets.Target.TheVariants.{OfSection, OfSymbol}
use Rattle.elf_object.specs.declared.references.SymbolReference.{SymbolReference}
use Rattle.elf_object.specs.declared.references.Reference.{Reference}
use Rattle.elf_object.specs.declared.relocations.Relocation.{Relocation}
use Rattle.elf_object.specs.declared.relocations.RelocationKind.{RelocationKind}
use Rattle.elf_object.specs.Relocations.{merge, sized_kind, signed_kind, branch_kind, plain_kind, kind_for, symbol_reference, label_reference, meaning_reference, reference_at, reference_found, own_address, reference, direct, relative, pair, is_plus, is_minus, minus_one, reference_by, final_reference, relocation_with, relocation, field_place, field_relocation}
use Rattle.elf_object.specs.RelocationLaws.{is_relative, target_address, IsLinked, PlaceStands, RelocationsMeanForms}
use Rattle.x86_insn.specs.declared.amounts.FieldKind.{FieldKind}
use Rattle.x86_insn.specs.declared.amounts.FieldKind.TheVariants as field
use Rattle.x86_insn.specs.declared.amounts.Suffix.{Suffix}
use Rattle.elf_object.proofs.Targets.{mapped, then_got, nothing, chosen, got_inside}
use Rattle.elf_object.proofs.ItemBytes.{both_true}

-- WHETHER A KIND IS RELATIVE

sized_relative : (relative : Bool) (size : FieldSize) → is_relative (sized_kind relative size) ≡ relative
sized_relative false One = refl
sized_relative false Two = refl
sized_relative false Four = refl
sized_relative false Eight = refl
sized_relative true One = refl
sized_relative true Two = refl
sized_relative true Four = refl
sized_relative true Eight = refl

signed_relative : (relative : Bool) (size : FieldSize) → is_relative (signed_kind relative size) ≡ relative
signed_relative false One = refl
signed_relative false Two = refl
signed_relative false Four = refl
signed_relative false Eight = refl
signed_relative true size = sized_relative true size

branch_relative : (local : Bool) (size : FieldSize) → is_relative (branch_kind local size) ≡ true
branch_relative true size = sized_relative true size
branch_relative false One = refl
branch_relative false Two = refl
branch_relative false Four = refl
branch_relative false Eight = refl

same_kind : {x y : RelocationKind} (relative : Bool) → is_relative x ≡ relative → Some x ≡ Some y → is_relative y ≡ relative
same_kind relative is e = cc

plain_relative : (relative : Bool) (kind : FieldKind) (local : Bool) (size : FieldSize) (found : RelocationKind) → plain_kind relative kind local size ≡ Some found
    → is_relative found ≡ relative
plain_relative relative field.Plain local size found e = same_kind relative (sized_relative relative size) e
plain_relative relative field.Signed local size found e = same_kind relative (signed_relative relative size) e
plain_relative true field.Address local size found e = same_kind true (sized_relative true size) e
plain_relative false field.Address local size found e = absurd cc
plain_relative true field.Branch local size found e = same_kind true (branch_relative local size) e
plain_relative false field.Branch local size found e = absurd cc
plain_relative relative field.Number local size found e = absurd cc

kind_relative : (relative local : Bool) (role : FieldRole) (size : FieldSize) (found : RelocationKind) → is_suffixed role.suffix ≡ false → kind_for relative role local size ≡ Some found
    → is_relative found ≡ relative
kind_relative relative local role size found none e = by role.suffix none e
  where
    by : (s : Option Suffix) → is_suffixed s ≡ false → kind_for relative (record { kind = role.kind; suffix = s; behind = role.behind }) local size ≡ Some found → is_relative found ≡ relative
    by None none e = plain_relative relative role.kind local size found e
    by (Some suffix) none e = absurd cc

-- NUMBERS

is_number : (coefficient n : ℕ) → (coefficient == n) ≡ true → coefficient ≡ n
is_number coefficient n e = grind (arith, nat_tests)

known : {A : Type 0} {Goal : Type 0} (b : Bool) (x y : Option A) (z : A) → cond b x y ≡ Some z → (b ≡ true → x ≡ Some z → Goal) → (b ≡ false → y ≡ Some z → Goal) → Goal
known true x y z is first second = first refl is
known false x y z is first second = second refl is

sum_is : (s a v x w total place base address : ℕ) → s + a ≡ v → x ≡ v → w ≡ base + address → address < 2 ^ 64
    → wrapped (s + wrapped (less (total + place) address + a)) ≡ wrapped (x + minus_one * w + total + (base + place))
sum_is s a v x w total place base address first second third low = omega arith

in_order : (x w total place : ℕ) → wrapped (x + minus_one * w + total + place) ≡ wrapped (1 * x + ((2 ^ 64 - 1) * w + 0) + total + place)
in_order x w total place = omega arith

other_order : (x w total place : ℕ) → wrapped (x + minus_one * w + total + place) ≡ wrapped ((2 ^ 64 - 1) * w + (1 * x + 0) + total + place)
other_order x w total place = omega arith

-- WHAT A SYMBOL STANDS FOR

module _ (begins given : ℕ → ℕ) (map : SymbolMap) (sections : LaidSections) where
  -- the target, and what it lacks, are the symbol
  abbrev Stands : ℕ → SymbolReference → Type 0
  Stands index at = target_address begins given map sections at.target + at.addend ≡ value_by begins given index (final_told map sections index)

  itself_stands : (local : Bool) (index : ℕ) → Stands index (symbol_reference local (OfSymbol index) 0)
  itself_stands local index = omega arith

  told_there : (index : ℕ) (symbol : Symbol) → slice_get map.symbols index ≡ Some symbol → final_told map sections index ≡ final_meaning sections symbol.meaning
  unfolding final_told
  told_there index symbol there = rw there refl

  spot_stands : (itself : Bool) (index : ℕ) (local : Bool) (spot : Spot) (got : SymbolReference) → final_told map sections index ≡ spot_told sections spot
      → label_reference itself sections index local spot ≡ Some got → Stands index got
  spot_stands itself index local spot got told is =
      let by_section = symbol_reference local (OfSection spot.place.section) (address_of sections spot.place.section spot.place.place.item spot.place.place.offset) in
      let by_itself = symbol_reference local (OfSymbol index) 0 in
      mapped (λ (section : SectionOf LaidItem). cond (local && not (itself || has_flag merge section)) by_section by_itself)
      (slice_get sections spot.place.section) got is (λ section there made.
      subst (Stands index) made
      (chosen (Stands index) (local && not (itself || has_flag merge section)) by_section by_itself
      (sym (ap (value_by begins given index) told)) (itself_stands local index)))

  assigned_stands : (index : ℕ) (local : Bool) (got : SymbolReference) → cond local None (Some (symbol_reference local (OfSymbol index) 0)) ≡ Some got → Stands index got
  assigned_stands index true got is = absurd cc
  assigned_stands index false got is = subst (Stands index) (let e : symbol_reference false (OfSymbol index) 0 ≡ got = cc in e) (itself_stands false index)

  meaning_stands : (itself : Bool) (index : ℕ) (local : Bool) (what : Meaning) (got : SymbolReference) → final_told map sections index ≡ final_meaning sections what
      → meaning_reference itself sections index local what ≡ Some got → Stands index got
  meaning_stands itself index local meaning.Undefined got told is = subst (Stands index) (let e : symbol_reference local (OfSymbol index) 0 ≡ got = cc in e) (itself_stands local index)
  meaning_stands itself index local (meaning.Label spot) got told is = spot_stands itself index local spot got told is
  meaning_stands itself index local (meaning.Space spot) got told is = spot_stands itself index local spot got told is
  meaning_stands itself index local (meaning.Common size align) got told is = subst (Stands index) (let e : symbol_reference local (OfSymbol index) 0 ≡ got = cc in e) (itself_stands local index)
  meaning_stands itself index local (meaning.Assigned made) got told is = assigned_stands index local got is

  found_stands : (field : Field) (index : ℕ) (got : SymbolReference) → reference_found map sections field index ≡ Some got → Stands index got × (index < length map.symbols)
  unfolding reference_found
  found_stands field index got is =
      then_got (reference_at (is_suffixed field.role.suffix) sections index) (slice_get map.symbols index) got is
      (λ symbol there made. (
        meaning_stands (is_suffixed field.role.suffix) index _ symbol.meaning got (told_there index symbol there) made,
        got_inside map.symbols index symbol there,
      ))

  -- WHAT A FORM IS WORTH

  module _ (number : ℕ) (field : Field) (few : length map.symbols ≤ own_place) (stands : PlaceStands begins given sections field) where
    -- what a symbol is worth in the field's form
    abbrev worth : ℕ → ℕ
    worth index = value_by begins given index (told_in_field map sections field index)

    else_worth : (index : ℕ) → index < length map.symbols → worth index ≡ value_by begins given index (final_told map sections index)
    unfolding told_in_field
    else_worth index low =
        let differs : (index == own_place) ≡ false = grind (arith, nat_tests) in
        rw differs refl

    place_worth : (b : Bool) → value_by begins given own_place (cond b absent (place_label sections field)) ≡ begins field.section + field_address sections field
    place_worth true = stands
    place_worth false = refl

    own_by : (told : Told) (address : ℕ) → own_address number told ≡ Some address → told ≡ label number address
    own_by absent address is = absurd cc
    own_by (constant n) address is = absurd cc
    own_by (form made) address is = absurd cc
    own_by (label stretch at) address is = by (stretch == number) refl is
      where
        by : (b : Bool) → (stretch == number) ≡ b → cond b (Some at) None ≡ Some address → label stretch at ≡ label number address
        by true test e =
            let same : stretch ≡ number = grind (arith, nat_tests) in
            let there : at ≡ address = cc in
            rw (same, there) refl
        by false test e = absurd cc

    -- a label of the section, or the place of the field
    from_worth : (from address : ℕ) → own_address number (told_beside map sections field from) ≡ Some address → worth from ≡ begins number + address
    unfolding told_beside told_in_field
    from_worth from address is = by (from == own_place) refl is
      where
        by : (b : Bool) → (from == own_place) ≡ b → own_address number (cond b (place_label sections field) (final_told map sections from)) ≡ Some address
            → value_by begins given from (cond b (place_told map sections field) (final_told map sections from)) ≡ begins number + address
        by true test e =
            let same : from ≡ own_place = grind (arith, nat_tests) in
            let there = own_by (place_label sections field) address e in
            let worth_so = place_worth (is_linked map field) in
            let end : begins field.section + field_address sections field ≡ begins number + address = ap (λ t. value_by begins given 0 t) there in
            ap (λ i. value_by begins given i (place_told map sections field)) same ∙ worth_so ∙ end
        by false test e = ap (value_by begins given from) (own_by (final_told map sections from) address e)

    address_low : (n item offset : ℕ) → address_of sections n item offset < 2 ^ 64
    unfolding address_of
    address_low n item offset = by (slice_get sections n)
      where
        by : (o : Option (SectionOf LaidItem)) → option_map_or (λ found. address_in found.items item offset) o 0 < 2 ^ 64
        by None = omega arith
        by (Some found) = omega arith

    field_low : (b : Bool) → cond b (less (address_of sections field.section field.item field.offset) (width field.size)) (address_of sections field.section field.item field.offset) < 2 ^ 64
    field_low true = omega arith
    field_low false = address_low field.section field.item field.offset

    -- a label's address has 64 bits
    abbrev Low : Told → Type 0
    Low absent = Unit {0}
    Low (constant n) = Unit {0}
    Low (form made) = Unit {0}
    Low (label stretch at) = at < 2 ^ 64

    meaning_low : (what : Meaning) → Low (final_meaning sections what)
    meaning_low meaning.Undefined = tt
    meaning_low (meaning.Label spot) = address_low spot.place.section spot.place.place.item spot.place.place.offset
    meaning_low (meaning.Space spot) = address_low spot.place.section spot.place.place.item spot.place.place.offset
    meaning_low (meaning.Common size align) = tt
    meaning_low (meaning.Assigned made) = tt

    final_low : (index : ℕ) → Low (final_told map sections index)
    unfolding final_told
    final_low index = by (slice_get map.symbols index)
      where
        by : (o : Option Symbol) → Low (option_map_or (λ symbol. final_meaning sections symbol.meaning) o absent)
        by None = tt
        by (Some symbol) = meaning_low symbol.meaning

    from_low : (from address : ℕ) → own_address number (told_beside map sections field from) ≡ Some address → address < 2 ^ 64
    unfolding told_beside
    from_low from address is = by (from == own_place) is
      where
        by : (b : Bool) → own_address number (cond b (place_label sections field) (final_told map sections from)) ≡ Some address → address < 2 ^ 64
        by true e = subst Low (own_by (place_label sections field) address e) (field_low field.in_item)
        by false e = subst Low (own_by (final_told map sections from) address e) (final_low from)

    -- what is left of a form, at this place
    abbrev Refers : ℕ → List Term → ℕ → Reference → Type 0
    Refers place terms total found = wrapped (target_address begins given map sections found.target + found.addend)
        ≡ wrapped (terms_value begins given (told_in_field map sections field) terms + total + cond found.relative (begins number + place) 0)

    direct_refers : (place : ℕ) (term : Term) (total : ℕ) (got : Reference) → is_plus term ≡ true → direct map sections field term.symbol total ≡ Some got → Refers place (term ∷ []) total got
    direct_refers place term total got plus is =
        mapped (reference false total) (reference_found map sections field term.symbol) got is (λ a there made.
        let (stands, low) = found_stands field term.symbol a there in
        let worth_so = else_worth term.symbol low in
        let one : term.coefficient ≡ 1 = grind (arith, nat_tests) in
        subst (Refers place (term ∷ []) total) made (rw (one, worth_so, ← stands) (let e : wrapped (target_address begins given map sections a.target + wrapped (total + a.addend))
        ≡ wrapped (1 * (target_address begins given map sections a.target + a.addend) + 0 + total + 0) = omega arith in e)))

    -- S + A - P, where P is taken, and the place of the section that is taken away
    abbrev IsRelative : ℕ → ℕ → ℕ → ℕ → Reference → Type 0
    IsRelative place symbol from total found = (found.relative ≡ true)
        × (wrapped (target_address begins given map sections found.target + found.addend)
        ≡ wrapped (worth symbol + minus_one * worth from + total + (begins number + place)))

    relative_refers : (place symbol from total : ℕ) (got : Reference) → relative map sections number place field symbol from total ≡ Some got → IsRelative place symbol from total got
    relative_refers place symbol from total got is =
        then_got (λ address. option_map (reference true (less (total + place) address)) (reference_found map sections field symbol)) (own_address number (told_beside map sections field from)) got is
        (λ address own second. mapped (reference true (less (total + place) address)) (reference_found map sections field symbol) got second (λ a there made.
        let (stands, low) = found_stands field symbol a there in
        subst (IsRelative place symbol from total) made (
          refl,
          sum_is (target_address begins given map sections a.target) a.addend _ (worth symbol) (worth from) total place (begins number) address stands
              (else_worth symbol low) (from_worth from address own) (from_low from address own),
        )))

    pair_refers : (place : ℕ) (one other : Term) (total : ℕ) (got : Reference) → pair map sections number place field one other total ≡ Some got → Refers place (one ∷ other ∷ []) total got
    pair_refers place one other total got is =
        known (is_plus one && is_minus other) _ _ got is (λ first there.
        let (plus, minus) = both_true (is_plus one) (is_minus other) first in
        let (so, sum) = relative_refers place one.symbol other.symbol total got there in
        rw (is_number one.coefficient 1 plus, is_number other.coefficient (2 ^ 64 - 1) minus, so) (sum ∙ in_order (worth one.symbol) (worth other.symbol) total (begins number + place)))
        (λ second later. known (is_minus one && is_plus other) _ _ got later (λ first there.
        let (minus, plus) = both_true (is_minus one) (is_plus other) first in
        let (so, sum) = relative_refers place other.symbol one.symbol total got there in
        rw (is_number one.coefficient (2 ^ 64 - 1) minus, is_number other.coefficient 1 plus, so) (sum ∙ other_order (worth other.symbol) (worth one.symbol) total (begins number + place)))
        (λ third none. nothing got none))

    terms_refer : (place : ℕ) (terms : List Term) (total : ℕ) (got : Reference) → reference_by map sections number place field terms total ≡ Some got → Refers place terms total got
    terms_refer place [] total got is = absurd cc
    terms_refer place (term ∷ []) total got is = known (is_plus term) _ _ got is (λ plus there. direct_refers place term total got plus there) (λ none later. nothing got later)
    terms_refer place (one ∷ other ∷ []) total got is = pair_refers place one other total got is
    terms_refer place (one ∷ other ∷ third ∷ more) total got is = absurd cc

-- WHAT THE LINKER PUTS

taken_back : (b : Bool) (addend taken : ℕ) → taken < 2 ^ 64 → wrapped (cond b (less addend (cond b taken 0)) addend + cond b taken 0) ≡ wrapped addend
taken_back true addend taken low = omega arith
taken_back false addend taken low = omega arith

short : (size : FieldSize) → width size < 9
short One = omega arith
short Two = omega arith
short Four = omega arith
short Eight = omega arith

-- what is put, and what it counts from
puts : (value place target addend counts given worth : ℕ) → wrapped (value + place) ≡ wrapped (target + given) → wrapped (given + counts) ≡ wrapped addend
    → wrapped (target + addend) ≡ wrapped (worth + place) → wrapped (value + counts) ≡ wrapped worth
puts value place target addend counts given worth first second third = omega arith

-- settling keeps the value of a form
pub relocations_mean : ((told : ℕ → Told) (made : Form) → KeepsValue told made) → RelocationsMeanForms
unfolding field_relocation
relocations_mean keeps_value begins given map sections number value section field r few bare low stands is linked =
    let place = field_place section field in
    let told = told_in_field map sections field in
    let made = settled told field.form in
    then_got (relocation place field) (final_reference map sections number place field) r is (λ found there same.
    mapped (relocation_with place field found) (kind_for found.relative field.role found.local field.size) r same (λ kind chosen made_so.
    let worth_so = terms_refer begins given map sections number field few stands place made.terms made.constant found there in
    let relative_so : is_relative kind ≡ found.relative = kind_relative found.relative found.local field.role field.size kind bare chosen in
    let put : wrapped (value + cond (is_relative kind) (begins number + place) 0) ≡ wrapped (target_address begins given map sections found.target + counted field.size field.role found.addend) =
    subst (λ (x : Relocation). IsLinked begins given map sections number x value) (sym made_so) linked in
    let taken : wrapped (counted field.size field.role found.addend + counted_bytes field.size field.role) ≡ wrapped found.addend =
    taken_back (is_distance field.role.kind) found.addend (width field.size + field.role.behind) (let few_bytes = short field.size in omega arith) in
    puts value (cond found.relative (begins number + place) 0) (target_address begins given map sections found.target) found.addend (counted_bytes field.size field.role)
    (counted field.size field.role found.addend) (terms_value begins given told made.terms + made.constant)
    (ap (λ b. wrapped (value + cond b (begins number + place) 0)) (sym relative_so) ∙ put) taken worth_so
    ∙ keeps_value told field.form begins given))
