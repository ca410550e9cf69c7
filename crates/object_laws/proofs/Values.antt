-- What the calculation of a relocation gives, against the value of its form.
use Rattle.std.proofs.Common.{◌≡◌, ℕ, ◌+◌, ◌-◌, ◌*◌, ◌^◌, ◌==◌, ◌<◌, ◌≤◌, Bool, true, false, cond, List, [], ◌∷◌, Option, None, Some, length, refl, sym, ap, ◌∙◌, subst, inl, inr, ⊎_elim, arith}
use Rattle.std.specs.Prelude.{slice_get}
use Rattle.std.specs.Option.{option_map_or}
use Rattle.std.proofs.lemmas.Bool.Decides.{nat_tests}
use Rattle.asm_expr.specs.declared.forms.Term.{Term}
use Rattle.asm_expr.specs.Coefficients.{times, coefficient, cancels, IsSettled}
use Rattle.asm_expr.specs.Forms.{wrapped, term_of}
use Rattle.asm_expr.specs.FormValues.{value_by, terms_value, form_value}
use Rattle.asm_expr.specs.Knowledge.{Told, absent, constant, label, form}
use Rattle.asm_frags.specs.declared.fields.Field.{Field}
use Rattle.asm_frags.specs.declared.fields.FieldSize.{FieldSize}
use Rattle.asm_frags.specs.declared.fields.FieldSize.TheVariants.{One, Two, Four, Eight}
use Rattle.asm_frags.specs.Fields.{own_place, is_distance, width}
use Rattle.asm_frags.specs.SectionOf.{SectionOf}
use Rattle.asm_symbols.specs.declared.entries.Symbol.{Symbol}
use Rattle.asm_symbols.specs.declared.entries.Meaning.{Meaning}
use Rattle.asm_symbols.specs.declared.entries.Meaning.TheVariants as meaning
use Rattle.asm_symbols.specs.SymbolMap.{SymbolMap}
use Rattle.item_rows.specs.Links.{is_linked}
use Rattle.asm_relax.specs.FieldValues.{field_address, place_label, place_told, told_beside, told_in_field, less, counted_bytes, counted}
use Rattle.asm_relax.specs.Final.{address_in, address_of, final_meaning, final_told}
use Rattle.asm_relax.specs.Settling.{LaidItem, LaidSections}
use Rattle.elf_object.specs.declared.references.SymbolReference.{SymbolReference}
use Rattle.elf_object.specs.declared.references.Reference.{Reference}
use Rattle.elf_object.specs.Relocations.{minus_one, own_address}
use Rattle.elf_object.specs.RelocationLaws.{PlaceStands}
use Rattle.object_laws.specs.FieldSymbols.{form_left}
use Rattle.object_laws.proofs.Parts.{ArePair, IsAlone, IsLess}
use Rattle.object_laws.proofs.Stretches.{not_itself, labels}

-- NUMBERS

taken_back : (b : Bool) (addend taken : ℕ) → taken < 2 ^ 64 → wrapped (cond b (less addend (cond b taken 0)) addend + cond b taken 0) ≡ wrapped addend
taken_back true addend taken low = omega arith
taken_back false addend taken low = omega arith

short : (size : FieldSize) → width size < 9
short One = omega arith
short Two = omega arith
short Four = omega arith
short Eight = omega arith

-- the addend counts from where the field does
pub counted_back : (field : Field) (addend : ℕ) → field.role.behind < 2 ^ 8
    → wrapped (counted field.size field.role addend + counted_bytes field.size field.role) ≡ wrapped addend
counted_back field addend low = taken_back (is_distance field.role.kind) addend (width field.size + field.role.behind) (let few = short field.size in omega arith)

alone_sum : (value count old put written addend total formed : ℕ) → wrapped (value + 0) ≡ wrapped (put + written) → wrapped (written + count) ≡ wrapped (wrapped (total + addend))
    → formed ≡ wrapped (1 * old + 0 + total) → wrapped (value + count + old) ≡ wrapped (formed + put + addend)
alone_sum value count old put written addend total formed first second third = omega arith

less_sum : (value count old put written addend total formed base place address from : ℕ) → wrapped (value + (base + place)) ≡ wrapped (put + written)
    → wrapped (written + count) ≡ wrapped (wrapped (less (total + place) address + addend)) → from ≡ base + address → address < 2 ^ 64
    → formed ≡ wrapped (1 * old + minus_one * from + total) → wrapped (value + count + old) ≡ wrapped (formed + put + addend)
less_sum value count old put written addend total formed base place address from first second third low fourth = omega arith

-- WHAT SYMBOLS ARE WORTH

module _ (begins given : ℕ → ℕ) (map : SymbolMap) (sections : LaidSections) (number : ℕ) (field : Field) (few : length map.symbols ≤ own_place) (stands : PlaceStands begins given sections field) where
  -- what a symbol is worth in the field's form
  abbrev pub worth : ℕ → ℕ
  worth index = value_by begins given index (told_in_field map sections field index)

  pub told_final : (index : ℕ) → index < length map.symbols → told_in_field map sections field index ≡ final_told map sections index
  unfolding told_in_field
  told_final index low =
      let differs : (index == own_place) ≡ false = grind (arith, nat_tests) in
      rw differs refl

  place_worth : (b : Bool) → value_by begins given own_place (cond b absent (place_label sections field)) ≡ begins field.section + field_address sections field
  place_worth true = stands
  place_worth false = refl

  pub own_by : (told : Told) (address : ℕ) → own_address number told ≡ Some address → told ≡ label number address
  own_by absent address is = absurd cc
  own_by (constant n) address is = absurd cc
  own_by (form made) address is = absurd cc
  own_by (label stretch at) address is = by (stretch == number) refl is
    where
      by : (b : Bool) → (stretch == number) ≡ b → cond b (Some at) None ≡ Some address → label stretch at ≡ label number address
      by true test e =
          let same : stretch ≡ number = grind (arith, nat_tests) in
          let there : at ≡ address = cc in
          rw (same, there) refl
      by false test e = absurd cc

  -- a label of the section, or the place of the field
  from_worth : (from address : ℕ) → own_address number (told_beside map sections field from) ≡ Some address → worth from ≡ begins number + address
  unfolding told_beside told_in_field
  from_worth from address is = by (from == own_place) refl is
    where
      by : (b : Bool) → (from == own_place) ≡ b → own_address number (cond b (place_label sections field) (final_told map sections from)) ≡ Some address
          → value_by begins given from (cond b (place_told map sections field) (final_told map sections from)) ≡ begins number + address
      by true test e =
          let same : from ≡ own_place = grind (arith, nat_tests) in
          let there = own_by (place_label sections field) address e in
          let worth_so = place_worth (is_linked map field) in
          let end : begins field.section + field_address sections field ≡ begins number + address = ap (λ t. value_by begins given 0 t) there in
          ap (λ i. value_by begins given i (place_told map sections field)) same ∙ worth_so ∙ end
      by false test e = ap (value_by begins given from) (own_by (final_told map sections from) address e)

  -- a symbol of the map that is a label of the section
  pub symbol_told : (from address : ℕ) → from < length map.symbols → own_address number (told_beside map sections field from) ≡ Some address
      → told_in_field map sections field from ≡ label number address
  unfolding told_beside
  symbol_told from address low is =
      let differs : (from == own_place) ≡ false = grind (arith, nat_tests) in
      let there : own_address number (final_told map sections from) ≡ Some address = rw differs at is in
      told_final from low ∙ own_by (final_told map sections from) address there

  address_low : (n item offset : ℕ) → address_of sections n item offset < 2 ^ 64
  unfolding address_of
  address_low n item offset = by (slice_get sections n)
    where
      by : (o : Option (SectionOf LaidItem)) → option_map_or (λ found. address_in found.items item offset) o 0 < 2 ^ 64
      by None = omega arith
      by (Some found) = omega arith

  field_low : (b : Bool) → cond b (less (address_of sections field.section field.item field.offset) (width field.size)) (address_of sections field.section field.item field.offset) < 2 ^ 64
  field_low true = omega arith
  field_low false = address_low field.section field.item field.offset

  -- a label's address has 64 bits
  abbrev Low : Told → Type 0
  Low absent = Unit {0}
  Low (constant n) = Unit {0}
  Low (form made) = Unit {0}
  Low (label stretch at) = at < 2 ^ 64

  meaning_low : (what : Meaning) → Low (final_meaning sections what)
  meaning_low meaning.Undefined = tt
  meaning_low (meaning.Label spot) = address_low spot.place.section spot.place.place.item spot.place.place.offset
  meaning_low (meaning.Space spot) = address_low spot.place.section spot.place.place.item spot.place.place.offset
  meaning_low (meaning.Common size align) = tt
  meaning_low (meaning.Assigned made) = tt

  final_low : (index : ℕ) → Low (final_told map sections index)
  unfolding final_told
  final_low index = by (slice_get map.symbols index)
    where
      by : (o : Option Symbol) → Low (option_map_or (λ symbol. final_meaning sections symbol.meaning) o absent)
      by None = tt
      by (Some symbol) = meaning_low symbol.meaning

  from_low : (from address : ℕ) → own_address number (told_beside map sections field from) ≡ Some address → address < 2 ^ 64
  unfolding told_beside
  from_low from address is = by (from == own_place) is
    where
      by : (b : Bool) → own_address number (cond b (place_label sections field) (final_told map sections from)) ≡ Some address → address < 2 ^ 64
      by true e = subst Low (own_by (place_label sections field) address e) (field_low field.in_item)
      by false e = subst Low (own_by (final_told map sections from) address e) (final_low from)

  -- WHAT IS LEFT OF THE FORM

  abbrev left_value : ℕ
  left_value = form_value begins given (told_in_field map sections field) (form_left map sections field)

  -- what is counted from the field's kind is the form, with what is put for the symbol and not its address
  abbrev pub Sums : (value put addend old : ℕ) → Type 0
  Sums value put addend old = wrapped (value + counted_bytes field.size field.role + old) ≡ wrapped (left_value + put + addend)

  -- the calculation gives the value, where this place is taken from it, and its addend counts from where the field does
  abbrev pub Calculated : (value put written place : ℕ) → Reference → Type 0
  Calculated value put written place found = (wrapped (value + cond found.relative place 0) ≡ wrapped (put + written))
      × (wrapped (written + counted_bytes field.size field.role) ≡ wrapped found.addend)

  pub alone_sums : (value put written place : ℕ) (found : Reference) (index : ℕ) (at : SymbolReference)
      → IsAlone map sections field (form_left map sections field).terms (form_left map sections field).constant found index at
      → Calculated value put written place found → Sums value put at.addend (worth index)
  alone_sums value put written place found index at alone both =
      let total = (form_left map sections field).constant in
      let (first, second) = subst (Calculated value put written place) (sym alone.made) both in
      let formed : left_value ≡ wrapped (1 * worth index + 0 + total) =
      ap (λ (terms : List Term). wrapped (terms_value begins given (told_in_field map sections field) terms + total)) alone.are in
      alone_sum value (counted_bytes field.size field.role) (worth index) put written at.addend total left_value first second formed

  in_order : (old from total : ℕ) → wrapped (1 * old + ((2 ^ 64 - 1) * from + 0) + total) ≡ wrapped (1 * old + minus_one * from + total)
  in_order old from total = omega arith

  other_order : (old from total : ℕ) → wrapped ((2 ^ 64 - 1) * from + (1 * old + 0) + total) ≡ wrapped (1 * old + minus_one * from + total)
  other_order old from total = omega arith

  pair_value : (index from : ℕ) → ArePair map sections field (form_left map sections field).terms index from
      → left_value ≡ wrapped (1 * worth index + minus_one * worth from + (form_left map sections field).constant)
  pair_value index from are =
      let total = (form_left map sections field).constant in
      let value = λ (terms : List Term). wrapped (terms_value begins given (told_in_field map sections field) terms + total) in
      ⊎_elim (λ e. ap value e ∙ in_order (worth index) (worth from) total) (λ e. ap value e ∙ other_order (worth index) (worth from) total) are

  pub less_sums : (value put written place : ℕ) (found : Reference) (index from address : ℕ) (at : SymbolReference)
      → IsLess map sections field number place (form_left map sections field).terms (form_left map sections field).constant found index from address at
      → Calculated value put written (begins number + place) found → Sums value put at.addend (worth index)
  less_sums value put written place found index from address at pair both =
      let (first, second) = subst (Calculated value put written (begins number + place)) (sym pair.made) both in
      less_sum value (counted_bytes field.size field.role) (worth index) put written at.addend (form_left map sections field).constant left_value (begins number) place address
      (worth from) first second (from_worth from address pair.own) (from_low from address pair.own) (pair_value index from pair.are)

  -- THE SYMBOL COUNTS ONCE

  settled_once : (index : ℕ) → IsSettled (told_in_field map sections field) field.form → coefficient (form_left map sections field) index ≡ 1 → coefficient field.form index ≡ 1
  settled_once index settles once = by (cancels (told_in_field map sections field) field.form index) (sym (settles.coefficients index) ∙ once)
    where
      by : (b : Bool) → cond b 0 (coefficient field.form index) ≡ 1 → coefficient field.form index ≡ 1
      by true is = absurd (omega arith)
      by false is = is

  pub alone_once : (total : ℕ) (found : Reference) (index : ℕ) (at : SymbolReference) → IsSettled (told_in_field map sections field) field.form
      → IsAlone map sections field (form_left map sections field).terms total found index at → coefficient field.form index ≡ 1
  alone_once total found index at settles alone =
      let self : (index == index) ≡ true = grind (arith, nat_tests) in
      settled_once index settles (ap (λ (terms : List Term). wrapped (times index terms)) alone.are ∙ rw self refl)

  -- the labels of a section count the same in both orders
  pair_labels : (index from : ℕ) → from ≡ index → ArePair map sections field (form_left map sections field).terms index from
      → labels (told_in_field map sections field) number (form_left map sections field).terms
      ≡ labels (told_in_field map sections field) number (term_of index 1 ∷ term_of index minus_one ∷ [])
  pair_labels index from same (inl are) =
      ap (labels (told_in_field map sections field) number) are
      ∙ ap (λ (i : ℕ). labels (told_in_field map sections field) number (term_of index 1 ∷ term_of i minus_one ∷ [])) same
  pair_labels index from same (inr are) =
      ap (labels (told_in_field map sections field) number) are
      ∙ ap (λ (i : ℕ). labels (told_in_field map sections field) number (term_of i minus_one ∷ term_of index 1 ∷ [])) same ∙ (omega arith)

  -- what is taken away is another symbol, or the place of the field
  pair_differs : (index from address : ℕ) → index < length map.symbols → ArePair map sections field (form_left map sections field).terms index from
      → own_address number (told_beside map sections field from) ≡ Some address → (from == index) ≡ false
  pair_differs index from address low are own = by (from == index) refl
    where
      by : (b : Bool) → (from == index) ≡ b → (from == index) ≡ false
      by false is = is
      by true is =
          let same : from ≡ index = grind (arith, nat_tests) in
          let there : own_address number (told_beside map sections field index) ≡ Some address = ap (λ (i : ℕ). own_address number (told_beside map sections field i)) (sym same) ∙ own in
          absurd (not_itself (told_in_field map sections field) field.form index number address (symbol_told index address low there) (pair_labels index from same are))

  pub less_once : (place total : ℕ) (found : Reference) (index from address : ℕ) (at : SymbolReference) → index < length map.symbols
      → IsSettled (told_in_field map sections field) field.form
      → IsLess map sections field number place (form_left map sections field).terms total found index from address at → coefficient field.form index ≡ 1
  less_once place total found index from address at low settles pair =
      settled_once index settles (by pair.are)
    where
      by : ArePair map sections field (form_left map sections field).terms index from → coefficient (form_left map sections field) index ≡ 1
      by are =
          let self : (index == index) ≡ true = grind (arith, nat_tests) in
          let differs = pair_differs index from address low are pair.own in
          ⊎_elim (λ e. ap (λ (terms : List Term). wrapped (times index terms)) e ∙ rw (self, differs) refl)
          (λ e. ap (λ (terms : List Term). wrapped (times index terms)) e ∙ rw (differs, self) refl) are
