-- The fields that the linker fills: their places and their relocations.
use Rattle.std.proofs.Common.{◌≡◌, ℕ, ◌+◌, ◌^◌, ◌<◌, ◌≤◌, ◌==◌, Bool, false, Option, Some, None, length, refl, sym, ap, ◌∙◌, subst, arith}
use Rattle.std.specs.Prelude.{slice_get, IsSomeAnd}
use Rattle.std.specs.Option.{option_map_or, unwrap_or}
use Rattle.std.proofs.lemmas.Bool.Decides.{nat_tests}
use Rattle.std.proofs.lemmas.Option.{slice_get_within}
use Rattle.asm_base.specs.declared.places.SectionPlace.{SectionPlace}
use Rattle.asm_base.specs.declared.positions.Pos.{Pos}
use Rattle.asm_expr.specs.Forms.{Form, wrapped, symbol_form}
use Rattle.asm_symbols.specs.declared.entries.Symbol.{Symbol}
use Rattle.asm_symbols.specs.SymbolMap.{SymbolMap}
use Rattle.asm_frags.specs.declared.fields.Field.{Field}
use Rattle.asm_frags.specs.declared.fields.FieldSize.{FieldSize}
use Rattle.asm_frags.specs.declared.fields.FieldSize.TheVariants.{Four, Eight}
use Rattle.asm_frags.specs.declared.roles.FieldRole.{FieldRole}
use Rattle.asm_frags.specs.Fields.{data_role, width, own_place}
use Rattle.asm_frags.specs.SectionOf.{SectionOf}
use Rattle.asm_frags.specs.Substituting.{substituted_field}
use Rattle.assigned_forms.specs.Linked.{linked}
use Rattle.item_rows.specs.Links.{is_suffixed}
use Rattle.asm_relax.specs.FieldValues.{counted_bytes, held_value}
use Rattle.asm_relax.specs.Final.{address_in, address_of}
use Rattle.asm_relax.specs.Settling.{LaidItem}
use Rattle.elf_object.specs.Faults.{object_fault}
use Rattle.elf_object.specs.FieldRelocations.{HasOneRelocation}
use Rattle.elf_object.specs.Places.{moved}
use Rattle.elf_object.specs.Relocations.{sized_kind, field_place, field_relocation}
use Rattle.table_pieces.specs.declared.ends.SectionEnd.{SectionEnd}
use Rattle.table_pieces.specs.declared.marks.Mark.TheVariants.{At}
use Rattle.table_pieces.specs.Ends.{behind_plain}
use Rattle.table_pieces.specs.Found.{FieldBehind, NumberAt, RunAt, field_behind, number_field}
use Rattle.table_pieces.specs.Labels.{IsLabelAt, NamesPlace, PlacesAreLabels}
use Rattle.table_pieces.specs.Marks.{HaveTwoTerms, with_label, with_marks, mark_number, distance_form, address_form}
use Rattle.table_pieces.specs.Pieces.{from_here}
use Rattle.table_pieces.specs.StandingPlaces.{HoldsItems}
use Rattle.piece_laws.specs.HeldDistances.{NamesStay}
use Rattle.piece_laws.specs.LaidTables.{place_address, end_address, StandsTo}
use Rattle.piece_laws.specs.Pointers.{distance_relocation, address_relocation, PointsTo, HoldsAddress, LinkerFills, IsFilled, HoldsForm, PointersPoint, AddressesAreHeld, FormsAreHeld}
use Rattle.piece_laws.proofs.FilledFields.{own_left, kind_is}
use Rattle.piece_laws.proofs.LocationRelocations.{location_said, address_said}
use Rattle.piece_laws.proofs.MarkSymbols.{has_distance, has_address}
use Rattle.piece_laws.proofs.NumberForms.{both_form}
use Rattle.piece_laws.proofs.Shifts.{shift_rises}
use Rattle.piece_laws.proofs.SectionInFile as section_in_file
use Rattle.piece_laws.proofs.TableSections.{PieceFacts, TableSection, table_section, image, base, kept, at_end, end_is, kept_long, kept_small}
use Rattle.piece_laws.proofs.PieceBytes.{run_is, run_enough, field_made}

module _ (facts : PieceFacts) (t : TableSection) where
  -- a label is not the field's own place
  label_apart : (symbol : ℕ) (at : SectionPlace) → NamesPlace t.symbols symbol at → (symbol == own_place) ≡ false
  label_apart symbol at = by (slice_get t.symbols.symbols symbol) refl
    where
      by : (found : Option Symbol) → slice_get t.symbols.symbols symbol ≡ found → IsSomeAnd found (IsLabelAt at) → (symbol == own_place) ≡ false
      by None is names_it = absurd names_it
      by (Some one) is names_it =
          let within = slice_get_within t.symbols.symbols symbol one is in
          let few = t.few in
          let low : symbol < own_place = omega (arith, within, few) in
          grind (arith, nat_tests)

  -- no place of the section that has so many items and bytes stands above this
  pub stands_low : (one : SectionEnd) → StandsTo t.held one → at_end facts t one ≤ 2 ^ 30
  stands_low one stands =
      let more = shift_rises (kept facts t).items 0 one.items (length (kept facts t).items) (let long = kept_long facts t in let few = stands.items in omega (arith, long, few)) in
      let bytes = stands.bytes in
      let all = (kept_small facts t).size in
      omega (arith, more, bytes, all)

  -- so the address of a field in it is where it stands
  field_stands : (size : FieldSize) (pos : Pos) (end : SectionEnd) (form : Form) → StandsTo t.held end → RunAt t.held pos end (behind_plain (width size) end).items
      → field_place (kept facts t) (field_behind size t.number pos end form) ≡ at_end facts t end
  unfolding address_of
  field_stands size pos end form stands run =
      let items = (behind_plain (width size) end).items in
      let at : SectionPlace = record { section = t.number; place = record { item = items; offset = end.bytes } } in
      let kept_there = section_in_file.kept_there facts.file t.symbols t.sections t.laid t.number t.held t.is t.found t.takes t.low in
      let told = t.told at (record { held = t.held; there = t.found; enough = run_enough facts t pos end items stands.items run }) in
      let own : address_of t.laid t.number items end.bytes ≡ address_in (kept facts t).items items end.bytes =
      ap (λ found. option_map_or (λ (section : SectionOf LaidItem). address_in section.items items end.bytes) found 0) kept_there in
      let place : place_address t.laid at ≡ moved (kept facts t).items items end.bytes =
      ap (λ found. option_map_or (λ (section : SectionOf LaidItem). moved section.items items end.bytes) found 0) kept_there in
      let moves = run_is facts t pos end items run in
      let small = stands_low end stands in
      omega (arith, told, own, place, moves, small)

  -- a field that counts from itself to a place of another section has one relocation
  has_one : (pos : Pos) (end : SectionEnd) (place : SectionPlace) (index label : ℕ) (field : Field) → NamesPlace t.symbols label place → StandsTo t.held end
      → HoldsItems t.sections place.section place.place.item → place_address t.laid place < 2 ^ 64 → RunAt t.held pos end (behind_plain 4 end).items
      → field ≡ number_field t.number pos end (both_form label own_place 0) → slice_get (kept facts t).fields index ≡ Some field → (place.section == t.number) ≡ false
      → HasOneRelocation t.symbols t.laid t.number index (kept facts t) field (distance_relocation t.laid (at_end facts t end) place label)
  has_one pos end place index label field names_it stands starts low run is there apart =
      let kept_there = section_in_file.kept_there facts.file t.symbols t.sections t.laid t.number t.held t.is t.found t.takes t.low in
      let target = facts.file.layouts.section t.symbols t.sections t.laid place.section starts.held t.is starts.there in
      let says : field_relocation t.symbols t.laid t.number (kept facts t) field ≡ Some (distance_relocation t.laid (at_end facts t end) place label) =
      ap (field_relocation t.symbols t.laid t.number (kept facts t)) is
      ∙ location_said t.symbols t.few t.laid t.number (kept facts t) kept_there pos end label place names_it _ target.1 apart (at_end facts t end)
      (field_stands Four pos end (both_form label own_place 0) stands run) (t.told place starts) low in
      facts.file.one t.symbols t.laid t.number index (kept facts t) field (distance_relocation t.laid (at_end facts t end) place label)
      (record { found = kept_there; takes_bytes = t.takes; there = there }) says

  -- so has one that holds the address of a place
  address_one : (pos : Pos) (end : SectionEnd) (place : SectionPlace) (index label : ℕ) (field : Field) → NamesPlace t.symbols label place → StandsTo t.held end
      → HoldsItems t.sections place.section place.place.item → place_address t.laid place < 2 ^ 64 → RunAt t.held pos end (behind_plain 8 end).items
      → field ≡ field_behind Eight t.number pos end (symbol_form label) → slice_get (kept facts t).fields index ≡ Some field
      → HasOneRelocation t.symbols t.laid t.number index (kept facts t) field (address_relocation t.laid (at_end facts t end) place label)
  address_one pos end place index label field names_it stands starts low run is there =
      let kept_there = section_in_file.kept_there facts.file t.symbols t.sections t.laid t.number t.held t.is t.found t.takes t.low in
      let target = facts.file.layouts.section t.symbols t.sections t.laid place.section starts.held t.is starts.there in
      let says : field_relocation t.symbols t.laid t.number (kept facts t) field ≡ Some (address_relocation t.laid (at_end facts t end) place label) =
      ap (field_relocation t.symbols t.laid t.number (kept facts t)) is
      ∙ address_said t.symbols t.few t.laid t.number (kept facts t) kept_there pos end label place names_it _ target.1 (at_end facts t end)
      (field_stands Eight pos end (symbol_form label) stands run) (t.told place starts) low in
      facts.file.one t.symbols t.laid t.number index (kept facts t) field (address_relocation t.laid (at_end facts t end) place label)
      (record { found = kept_there; takes_bytes = t.takes; there = there }) says

  -- the field of a pointer counts from itself to its place
  pointer_points : HaveTwoTerms → (map : SymbolMap) (pos : Pos) (end : SectionEnd) (place : SectionPlace) → PlacesAreLabels map
      → NamesStay (with_marks map (from_here place)) t.symbols → StandsTo t.held end → HoldsItems t.sections place.section place.place.item → place_address t.laid place < 2 ^ 64
      → NumberAt t.held t.number pos end (distance_form map (from_here place)) → PointsTo t.symbols t.laid t.number (kept facts t) (at_end facts t end) place
  pointer_points two_terms map pos end place known stays stands starts low at =
      let field = number_field t.number pos end (distance_form map (from_here place)) in
      let distance = from_here place in
      let has = has_distance facts.labels map t.symbols field distance known stays t.few refl (omega arith) in
      let label = mark_number map (At place) in
      let names_it : NamesPlace t.symbols label place = stays label place (facts.labels.named map place known) in
      let same = facts.expanded t.symbols field distance has in
      let form = same ∙ two_terms map distance (label_apart label place names_it) (omega arith) in
      let there = section_in_file.field_there facts.file t.symbols t.sections t.laid t.number t.held t.is t.found t.takes t.low at.index field at.field.there in
      record {
        index = at.index;
        field = substituted_field (linked t.symbols) field;
        there = there;
        own = refl;
        plain = refl;
        stands = run_is facts t pos end (behind_plain 4 end).items at.run;
        size = refl;
        role = refl;
        label = label;
        form = form;
        names_it = names_it;
        relocated = λ apart. has_one pos end place at.index label (substituted_field (linked t.symbols) field) names_it stands starts low at.run
            (ap (number_field t.number pos end) form) there apart;
      }

  -- the field of an address holds that of its place
  address_holds : (map : SymbolMap) (pos : Pos) (end : SectionEnd) (place : SectionPlace) → PlacesAreLabels map → NamesStay (with_label map place) t.symbols
      → StandsTo t.held end → HoldsItems t.sections place.section place.place.item → place_address t.laid place < 2 ^ 64
      → FieldBehind Eight t.held t.number pos end (address_form map place) → HoldsAddress t.symbols t.laid t.number (kept facts t) (at_end facts t end) place
  address_holds map pos end place known stays stands starts low at =
      let field = field_behind Eight t.number pos end (address_form map place) in
      let has = has_address facts.labels map t.symbols field place known stays t.few refl in
      let form = (facts.linked t.symbols t.laid field place has refl).0 in
      let label = mark_number map (At place) in
      let names_it : NamesPlace t.symbols label place = stays label place (facts.labels.named map place known) in
      let there = section_in_file.field_there facts.file t.symbols t.sections t.laid t.number t.held t.is t.found t.takes t.low at.index field at.field.there in
      record {
        index = at.index;
        field = substituted_field (linked t.symbols) field;
        there = there;
        own = refl;
        plain = refl;
        stands = run_is facts t pos end (behind_plain 8 end).items at.run;
        size = refl;
        role = refl;
        label = label;
        form = form;
        names_it = names_it;
        relocated = address_one pos end place at.index label (substituted_field (linked t.symbols) field) names_it stands starts low at.run
            (ap (field_behind Eight t.number pos end) form) there;
      }

  -- a field that is left to the linker has one relocation, which says what its form is
  left_to_linker : (index : ℕ) (field : Field) → object_fault t.symbols t.laid ≡ None → slice_get (kept facts t).fields index ≡ Some field → field.role ≡ data_role
      → held_value t.symbols t.laid field ≡ None → LinkerFills t.symbols t.laid t.number index (kept facts t) field
  left_to_linker index field faultless there plain_role none =
      let kept_there = section_in_file.kept_there facts.file t.symbols t.sections t.laid t.number t.held t.is t.found t.takes t.low in
      let made = facts.file.valueless t.symbols t.laid t.number index (kept facts t) field faultless
      (record { found = kept_there; takes_bytes = t.takes; there = there }) none in
      let kind = kind_is t.symbols t.laid field t.number (kept facts t) made.0 plain_role made.1.says in
      let bare : is_suffixed field.role.suffix ≡ false = ap (λ (role : FieldRole). is_suffixed role.suffix) plain_role in
      let behind : field.role.behind < 2 ^ 8 = (let none = ap (λ (role : FieldRole). role.behind) plain_role in omega (arith, none)) in
      record {
        relocation = made.0;
        one = made.1;
        kind = kind;
        relative = λ symbol own is. kind ∙ ap (λ (own : Bool). sized_kind own field.size) (own_left t.symbols t.laid field symbol own none is);
        means = λ begins given value place linked.
            let plain : value + counted_bytes field.size field.role ≡ value =
            (let none = ap (counted_bytes field.size) plain_role in omega (arith, none)) in
            sym (ap wrapped plain)
            ∙ facts.file.mean begins given t.symbols t.laid t.number value (kept facts t) field made.0 t.few bare behind place made.1.says linked;
      }

  -- the bytes of the field of a form are those of its value, or 0 with one relocation
  form_filled : (size : FieldSize) (pos : Pos) (end : SectionEnd) (form : Form) → object_fault t.symbols t.laid ≡ None → (at : FieldBehind size t.held t.number pos end form)
      → (found : Option ℕ) → held_value t.symbols t.laid (substituted_field (linked t.symbols) (field_behind size t.number pos end form)) ≡ found
      → IsFilled (image facts t) t.symbols t.laid t.number at.index (kept facts t) (substituted_field (linked t.symbols) (field_behind size t.number pos end form))
      (base facts t + at_end facts t end) found
  form_filled size pos end form faultless at (Some value) is =
      let field = substituted_field (linked t.symbols) (field_behind size t.number pos end form) in (
        (field_made facts t size pos end form value at (ap (λ (v : Option ℕ). unwrap_or v 0) is)).0,
        facts.file.valued t.symbols t.laid t.number value (kept facts t) field is,
      )
  form_filled size pos end form faultless at None is =
      let there = section_in_file.field_there facts.file t.symbols t.sections t.laid t.number t.held t.is t.found t.takes t.low at.index
      (field_behind size t.number pos end form) at.field.there in (
        (field_made facts t size pos end form 0 at (ap (λ (v : Option ℕ). unwrap_or v 0) is)).0,
        left_to_linker at.index (substituted_field (linked t.symbols) (field_behind size t.number pos end form)) faultless there refl is,
      )

  -- the field of a form holds it
  form_holds : (size : FieldSize) (pos : Pos) (end : SectionEnd) (form : Form) → object_fault t.symbols t.laid ≡ None → FieldBehind size t.held t.number pos end form
      → HoldsForm t.symbols t.laid t.number (kept facts t) (at_end facts t end) size form
  form_holds size pos end form faultless at =
      let field = substituted_field (linked t.symbols) (field_behind size t.number pos end form) in
      record {
        index = at.index;
        field = field;
        there = section_in_file.field_there facts.file t.symbols t.sections t.laid t.number t.held t.is t.found t.takes t.low at.index
            (field_behind size t.number pos end form) at.field.there;
        own = refl;
        plain = refl;
        stands = run_is facts t pos end (behind_plain (width size) end).items at.run;
        sized = refl;
        role = refl;
        is_form = refl;
        filled = form_filled size pos end form faultless at (held_value t.symbols t.laid field) refl;
      }

-- what holds of the section of a table holds of the one that is there, at the address of an end
at_address : (facts : PieceFacts) (t : TableSection) (P : SectionOf LaidItem → ℕ → Type 0) (end : SectionEnd) → P (kept facts t) (at_end facts t end)
    → IsSomeAnd (slice_get t.laid t.number) (λ section. P section (end_address t.laid t.number end))
at_address facts t P end holds =
    subst (λ found. IsSomeAnd found (λ section. P section (end_address t.laid t.number end)))
    (sym (section_in_file.kept_there facts.file t.symbols t.sections t.laid t.number t.held t.is t.found t.takes t.low))
    (subst (P (kept facts t)) (sym (end_is facts t end)) holds)

pub pointers_point : PieceFacts → HaveTwoTerms → PointersPoint
pointers_point facts two_terms table map pos end at known stays stands starts low has =
    let t : TableSection = table_section facts table in
    at_address facts t (λ section offset. PointsTo t.symbols t.laid t.number section offset at) end
    (pointer_points facts t two_terms map pos end at known stays stands starts low has)

pub addresses_are_held : PieceFacts → AddressesAreHeld
addresses_are_held facts table map pos end at known stays stands starts low has =
    let t : TableSection = table_section facts table in
    at_address facts t (λ section offset. HoldsAddress t.symbols t.laid t.number section offset at) end
    (address_holds facts t map pos end at known stays stands starts low has)

pub forms_are_held : PieceFacts → FormsAreHeld
forms_are_held facts table size pos end form faultless stands at =
    let t : TableSection = table_section facts table in
    at_address facts t (λ section offset. HoldsForm t.symbols t.laid t.number section offset size form) end (form_holds facts t size pos end form faultless at)
