-- The relocation of a field that counts from itself to a place of another section, and that of one that holds the address of a place.
use Rattle.std.proofs.Common.{◌≡◌, ℕ, ◌+◌, ◌^◌, ◌<◌, ◌≤◌, ◌==◌, ◌&&◌, ◌||◌, not, Bool, true, false, cond, length, Option, None, Some, refl, sym, ap, ◌∙◌, arith}
use Rattle.std.specs.Prelude.{IsSomeAnd, option_map}
use Rattle.std.specs.List.{slice_get}
use Rattle.std.specs.Option.{option_map_or, option_and_then}
use Rattle.std.proofs.lemmas.Bool.Decides.{nat_tests}
use Rattle.asm_base.specs.declared.places.SectionPlace.{SectionPlace}
use Rattle.asm_base.specs.declared.positions.Pos.{Pos}
use Rattle.asm_expr.specs.Forms.{Form, wrapped, symbol_form}
use Rattle.asm_expr.specs.Knowledge.{Told, label}
use Rattle.asm_expr.specs.Settled.{settled, put_all}
use Rattle.asm_symbols.specs.declared.entries.Binding.{Binding}
use Rattle.asm_symbols.specs.declared.entries.Meaning.{Meaning}
use Rattle.asm_symbols.specs.declared.entries.Meaning.TheVariants.{Label}
use Rattle.asm_symbols.specs.declared.entries.Symbol.{Symbol}
use Rattle.asm_symbols.specs.SymbolMap.{SymbolMap}
use Rattle.asm_frags.specs.declared.fields.Field.{Field}
use Rattle.asm_frags.specs.declared.fields.FieldSize.{FieldSize}
use Rattle.asm_frags.specs.declared.fields.FieldSize.TheVariants.{Four, Eight}
use Rattle.asm_frags.specs.Fields.{own_place}
use Rattle.asm_frags.specs.SectionOf.{SectionOf}
use Rattle.item_rows.specs.Links.{is_linked}
use Rattle.asm_relax.specs.FieldValues.{field_address, told_beside, told_in_field, less}
use Rattle.asm_relax.specs.Final.{address_in, address_of}
use Rattle.asm_relax.specs.Settling.{LaidItem, LaidSections}
use Rattle.elf_symbols.specs.declared.targets.Target.TheVariants.{OfSection, OfSymbol}
use Rattle.elf_symbols.specs.SymbolValues.{binding_of, has_flag, is_flagged, is_local}
use Rattle.elf_object.specs.declared.references.SymbolReference.{SymbolReference}
use Rattle.elf_object.specs.declared.relocations.RelocationKind.TheVariants.{Pc32, Direct64}
use Rattle.elf_object.specs.Relocations.{merge, symbol_reference, meaning_reference, reference_at, reference_found, reference, own_address, reference_of, final_reference, relocation, field_place, field_relocation}
use Rattle.table_pieces.specs.declared.ends.SectionEnd.{SectionEnd}
use Rattle.table_pieces.specs.declared.marks.Mark.TheVariants.{Here, At}
use Rattle.table_pieces.specs.Found.{field_behind, number_field}
use Rattle.table_pieces.specs.Labels.{IsLabelAt, NamesPlace}
use Rattle.piece_laws.specs.LaidTables.{place_address}
use Rattle.piece_laws.specs.Pointers.{place_target, distance_relocation, address_relocation}
use Rattle.piece_laws.proofs.NumberForms.{both_form}
use Rattle.piece_laws.proofs.ToldMarks.{mark_strong, mark_known}

-- labels of two sections are left
both_left : (told : ℕ → Told) (stretch others at origin one other total : ℕ) → told one ≡ label stretch at → told other ≡ label others origin → (stretch == others) ≡ false
    → both_form one other total ≡ settled told (both_form one other total)
unfolding settled put_all
both_left told stretch others at origin one other total is also apart =
    let back : (others == stretch) ≡ false = grind (arith, nat_tests) in
    let same : (stretch == stretch) ≡ true = grind (arith, nat_tests) in
    let equal : (others == others) ≡ true = grind (arith, nat_tests) in
    rw (is, also, same, equal, apart, back) refl

-- a label alone is left
one_left : (told : ℕ → Told) (stretch at symbol : ℕ) → told symbol ≡ label stretch at → symbol_form symbol ≡ settled told (symbol_form symbol)
unfolding settled put_all
one_left told stretch at symbol is =
    let same : (stretch == stretch) ≡ true = grind (arith, nat_tests) in
    rw (is, same) refl

module _ (map : SymbolMap) (few : length map.symbols ≤ own_place) (laid : LaidSections) (number : ℕ) (section : SectionOf LaidItem) (there : slice_get laid number ≡ Some section)
    (pos : Pos) (end : SectionEnd) (symbol : ℕ) (at : SectionPlace) (named : NamesPlace map symbol at) (target : SectionOf LaidItem) (target_there : slice_get laid at.section ≡ Some target) where
  -- so far the place stands behind what is named, modulo 2^64
  abbrev addend : ℕ
  addend = cond (is_flagged laid merge at.section) 0 (address_of laid at.section at.place.item at.place.offset)

  -- what is named for the place
  abbrev reference_to : SymbolReference
  reference_to = symbol_reference true (place_target laid at symbol) addend

  -- what is named for a label that stands there
  abbrev label_named : ℕ → ℕ → ℕ → Option SymbolReference
  label_named section item offset =
      option_map (λ (one : SectionOf LaidItem). cond (true && not (false || has_flag merge one)) (symbol_reference true (OfSection section) (address_of laid section item offset))
      (symbol_reference true (OfSymbol symbol) 0)) (slice_get laid section)

  by_flag : (flag : Bool) → cond (true && not (false || flag)) (symbol_reference true (OfSection at.section) (address_of laid at.section at.place.item at.place.offset))
      (symbol_reference true (OfSymbol symbol) 0)
      ≡ symbol_reference true (cond flag (OfSymbol symbol) (OfSection at.section)) (cond flag 0 (address_of laid at.section at.place.item at.place.offset))
  by_flag true = refl
  by_flag false = refl

  named_there : label_named at.section at.place.item at.place.offset ≡ Some reference_to
  named_there =
      let flagged : is_flagged laid merge at.section ≡ has_flag merge target = ap (λ (found : Option (SectionOf LaidItem)). option_map_or (has_flag merge) found false) target_there in
      ap (option_map (λ (one : SectionOf LaidItem). cond (true && not (false || has_flag merge one))
      (symbol_reference true (OfSection at.section) (address_of laid at.section at.place.item at.place.offset)) (symbol_reference true (OfSymbol symbol) 0))) target_there
      ∙ ap Some (by_flag (has_flag merge target))
      ∙ ap (λ (flag : Bool). Some (symbol_reference true (cond flag (OfSymbol symbol) (OfSection at.section)) (cond flag 0 (address_of laid at.section at.place.item at.place.offset)))) (sym flagged)

  label_referred : (found : Option Symbol) → IsSomeAnd found (IsLabelAt at) → option_and_then (reference_at false laid symbol) found ≡ Some reference_to
  label_referred None is = absurd is
  label_referred (Some one) is =
      ap (λ (meaning : Meaning). meaning_reference false laid symbol (is_local (binding_of meaning one.binding)) meaning) is.means
      ∙ ap (λ (binding : Option Binding). meaning_reference false laid symbol (is_local (binding_of (Label is.spot) binding)) (Label is.spot)) is.unbound
      ∙ ap (λ (n : ℕ). label_named n is.spot.place.place.item is.spot.place.place.offset) is.place.section
      ∙ ap (λ (n : ℕ). label_named at.section n is.spot.place.place.offset) is.place.item
      ∙ ap (λ (n : ℕ). label_named at.section at.place.item n) is.place.offset ∙ named_there

  referred : (size : FieldSize) (form : Form) → reference_found map laid (field_behind size number pos end form) symbol ≡ Some reference_to
  unfolding reference_found
  referred size form = label_referred (slice_get map.symbols symbol) named

  -- THE ADDRESS OF THE PLACE

  abbrev address_field : Field
  address_field = field_behind Eight number pos end (symbol_form symbol)

  abbrev address_place : ℕ
  address_place = field_place section address_field

  address_free : is_linked map address_field ≡ false
  address_free = rw (mark_strong map few (At at) symbol named) refl

  address_stays : settled (told_in_field map laid address_field) address_field.form ≡ address_field.form
  address_stays =
      sym (one_left (told_in_field map laid address_field) at.section (address_of laid at.section at.place.item at.place.offset) symbol
      (mark_known map few laid address_field address_free (At at) symbol named))

  -- S + A
  address_there : final_reference map laid number address_place address_field ≡ Some (reference false 0 reference_to)
  address_there =
      ap (reference_of map laid number address_place address_field) address_stays
      ∙ ap (option_map (reference false 0)) (referred Eight (symbol_form symbol))

  address_is_said : field_relocation map laid number section address_field
      ≡ Some (record { offset = address_place; kind = Direct64; target = place_target laid at symbol; addend = wrapped (0 + addend) })
  unfolding field_relocation
  address_is_said = ap (option_and_then (relocation address_place address_field)) address_there

  whole_addend : (flag : Bool) → address_of laid at.section at.place.item at.place.offset ≡ wrapped (place_address laid at) → place_address laid at < 2 ^ 64
      → wrapped (0 + cond flag 0 (address_of laid at.section at.place.item at.place.offset)) ≡ cond flag 0 (place_address laid at)
  whole_addend true told low = omega arith
  whole_addend false told low = omega (arith, told, low)

  -- where the field and the place stand there, its relocation is that
  pub address_said : (offset : ℕ) → address_place ≡ offset → address_of laid at.section at.place.item at.place.offset ≡ wrapped (place_address laid at) → place_address laid at < 2 ^ 64
      → field_relocation map laid number section address_field ≡ Some (address_relocation laid offset at symbol)
  address_said offset stands told low =
      address_is_said ∙ ap (λ (n : ℕ). Some (record { offset = n; kind = Direct64; target = place_target laid at symbol; addend = wrapped (0 + addend) })) stands
      ∙ ap (λ (n : ℕ). Some (record { offset = offset; kind = Direct64; target = place_target laid at symbol; addend = n })) (whole_addend (is_flagged laid merge at.section) told low)

  -- THE DISTANCE TO THE PLACE

  module _ (apart : (at.section == number) ≡ false) where
    -- the field of a distance from itself to the place
    abbrev field : Field
    field = number_field number pos end (both_form symbol own_place 0)

    abbrev place : ℕ
    place = field_place section field

    free : is_linked map field ≡ false
    free = rw (mark_strong map few (At at) symbol named, mark_strong map few Here own_place refl) refl

    stays : settled (told_in_field map laid field) field.form ≡ field.form
    stays =
        sym (both_left (told_in_field map laid field) at.section number (address_of laid at.section at.place.item at.place.offset) (field_address laid field) symbol own_place 0
        (mark_known map few laid field free (At at) symbol named) (mark_known map few laid field free Here own_place refl) apart)

    own_is : told_beside map laid field own_place ≡ label number (field_address laid field)
    unfolding told_beside
    own_is = refl

    -- the place of the field is where it is told
    address_is : field_address laid field ≡ place
    unfolding address_of
    address_is = ap (λ (found : Option (SectionOf LaidItem)). option_map_or (λ one. address_in one.items field.item field.offset) found 0) there

    -- S + A - P, by the place of the field
    found_there : final_reference map laid number place field ≡ Some (reference true (less (0 + place) (field_address laid field)) reference_to)
    found_there =
        let same : (number == number) ≡ true = grind (arith, nat_tests) in
        let step = λ (address : ℕ). option_map (reference true (less (0 + place) address)) (reference_found map laid field symbol) in
        ap (reference_of map laid number place field) stays ∙ ap (λ told. option_and_then step (own_address number told)) own_is
        ∙ ap (λ (b : Bool). option_and_then step (cond b (Some (field_address laid field)) None)) same
        ∙ ap (option_map (reference true (less (0 + place) (field_address laid field)))) (referred Four (both_form symbol own_place 0))

    said : field_relocation map laid number section field
        ≡ Some (record { offset = place; kind = Pc32; target = place_target laid at symbol; addend = wrapped (less (0 + place) (field_address laid field) + addend) })
    unfolding field_relocation
    said = ap (option_and_then (relocation place field)) found_there

    addend_is : (flag : Bool) → address_of laid at.section at.place.item at.place.offset ≡ wrapped (place_address laid at) → place_address laid at < 2 ^ 64
        → wrapped (less (0 + place) (field_address laid field) + cond flag 0 (address_of laid at.section at.place.item at.place.offset)) ≡ cond flag 0 (place_address laid at)
    addend_is true told low = let here = address_is in omega (arith, here)
    addend_is false told low = let here = address_is in omega (arith, here, told, low)

    -- where the field and the place stand there, their relocation is that
    pub location_said : (offset : ℕ) → place ≡ offset → address_of laid at.section at.place.item at.place.offset ≡ wrapped (place_address laid at) → place_address laid at < 2 ^ 64
        → field_relocation map laid number section field ≡ Some (distance_relocation laid offset at symbol)
    location_said offset stands told low =
        said ∙ ap (λ (n : ℕ). Some (record { offset = n; kind = Pc32; target = place_target laid at symbol; addend = wrapped (less (0 + place) (field_address laid field) + addend) })) stands
        ∙ ap (λ (n : ℕ). Some (record { offset = offset; kind = Pc32; target = place_target laid at symbol; addend = n })) (addend_is (is_flagged laid merge at.section) told low)
