-- Direct jumps stand in the object, and read as the jumps that were written.
use Rattle.std.proofs.Common.{◌≡◌, ℕ, zero, suc, ◌+◌, ◌-◌, ◌^◌, ◌<◌, ◌≤◌, inl, inr, not, nat_lt, nat_le, Bool, true, false, cond, List, ◌∷◌, ◌++◌, Option, Some, None, Ok, drop, length, refl, sym, ap, ◌∙◌, subst, arith}
use Rattle.std.specs.Prelude.{◌==◌, slice_get, option_map, unwrap_or, IfSome}
use Rattle.std.specs.Option.{option_map_or}
use Rattle.std.proofs.lemmas.Bool.{or_cases, ltb-true, leb-true}
use Rattle.std.proofs.lemmas.Option.{same_Some, slice_get-map}
use Rattle.asm_base.specs.declared.positions.Pos.{Pos}
use Rattle.asm_base.specs.Refusals.{◌>>=◌}
use Rattle.asm_expr.specs.Coefficients.{AreAdded}
use Rattle.asm_expr.specs.Forms.{Form}
use Rattle.asm_lines.specs.NextStatements.{TokenStatement}
use Rattle.asm_symbols.specs.SymbolMap.{SymbolMap}
use Rattle.asm_frags.specs.declared.fields.Field.{Field}
use Rattle.asm_frags.specs.declared.fields.FieldSize.TheVariants.{Four}
use Rattle.asm_frags.specs.Addresses.{item_laid_at}
use Rattle.asm_frags.specs.Fields.{holds, fits_signed}
use Rattle.asm_frags.specs.SectionOf.{SectionOf}
use Rattle.asm_frags.specs.Substituting.{substituted_field, laid_item}
use Rattle.asm_frags.specs.Writing.{LooseItem, LooseSection, new_item, item_behind}
use Rattle.item_bytes.specs.declared.jumps.Condition.{Condition}
use Rattle.item_bytes.specs.Jumps.{is_conditional, jump_bytes, jump_distance}
use Rattle.item_contents.specs.declared.contents.Content.{Content}
use Rattle.item_contents.specs.declared.contents.Content.TheVariants.{Growing}
use Rattle.item_contents.specs.declared.kinds.Growth.TheVariants.{Jump}
use Rattle.item_contents.specs.Contents.{level_size}
use Rattle.item_bytes.specs.Levels.{IsSignedWithin}
use Rattle.item_bytes.specs.Levels.{jump_size}
use Rattle.assigned_forms.specs.Linked.{linked}
use Rattle.item_rows.specs.ItemRows.{rows_of, levels_of}
use Rattle.asm_relax.specs.FieldValues.{held_value, DistancesLead}
use Rattle.asm_relax.specs.ItemValues.{AreLow, IsInItem, HasRoom}
use Rattle.asm_relax.specs.KeptSections.{kept_section}
use Rattle.asm_relax.specs.Placing.{placed_from, shift_of}
use Rattle.asm_relax.specs.SettledRoom.{HasRoomFor, SettledHaveRoom}
use Rattle.asm_relax.specs.Settling.{LaidItem, LaidSections, planned, settled_sections, layout_of}
use Rattle.elf_file.specs.Places.{PieceAt}
use Rattle.elf_file.specs.Sections.{no_bits}
use Rattle.elf_object.specs.Contents.{value_or_zero, item_bytes}
use Rattle.elf_object.specs.Image.{image_of}
use Rattle.elf_object.specs.Places.{section_offset, moved, IsFiled, ItemsStand}
use Rattle.x86_table.specs.Reads.{Reads, ReadsOneWay}
use Rattle.att_insns.specs.InsnTexts.{InsnText}
use Rattle.place_laws.specs.Low.{LayoutsAreLow}
use Rattle.asm_values.specs.State.{Placed, nothing_placed}
use Rattle.section_laws.specs.Within.{AreWithin}
use Rattle.asm_place.specs.Instructions.{next_offset}
use Rattle.asm_place.specs.CodePlaces.{ValueForms, insn_in, jump_in}
use Rattle.asm_place.specs.SymbolPlaces.{AreUpTo, PlacesStand}
use Rattle.asm_place.specs.JumpPlaces.{IsJump, jump_form, items_so_far, jump_field, JumpStandsAt, JumpStands, jump_written}
use Rattle.asm_place.specs.Sources.{pos_at, place_all}
use Rattle.x86_insn.specs.declared.amounts.FieldKind.TheVariants as kind
use Rattle.cfi_directives.specs.declared.frames.Frame.{Frame}
use Rattle.table_pieces.specs.Pieces.{Tables}
use Rattle.readback_laws.specs.Origins.{Origin, with_worked_out}
use Rattle.readback_laws.specs.Instructions.{file_place, final_value, has_no_bits, jump_value, LeadsToLabel, JumpReadsAt, JumpReadsBack, JumpsReadBack}
use Rattle.readback_laws.proofs.FramedSections.{TableFacts, ComesTo, is_framed, jump_stays}
use Rattle.readback_laws.proofs.FramedSymbols.{AreCovered, covered_stand, labels_framed, symbols_framed, forms_framed}
use Rattle.readback_laws.proofs.PlacedFacts.{PlaceFacts}
use Rattle.readback_laws.proofs.HeldFields.{field_held}
use Rattle.readback_laws.proofs.JumpFields.{stands_in_item, jump_constant}
use Rattle.readback_laws.proofs.OwnPlaces.{names_own_place}
use Rattle.readback_laws.proofs.SettledObjects.{AreSettled, drop_stands}
use Rattle.readback_laws.proofs.BareInObject.{reads_code}
use Rattle.readback_laws.proofs.ReachedStatements.{all_placed, all_split}
use Rattle.readback_laws.proofs.SmallForms.{held_small, final_small}
use Rattle.readback_laws.proofs.SmallSections.{shift_next}

-- what is known of all jumps: where their items stand in the sections and in the object, and what their bytes read as
pub record JumpFacts : Type 0 where
  pub placed : (front : List TokenStatement) (s : TokenStatement) (later : List TokenStatement) (before placed whole : Placed) (text : InsnText) (condition : Option Condition)
      → AreWithin before.sections → place_all front before ≡ Ok placed → place_all (front ++ s ∷ later) before ≡ Ok whole
      → insn_in placed.syntax s ≡ Some text → jump_in text ≡ Some condition → JumpStands whole.sections (pos_at s.file s.line) s.tokens text condition placed
  pub stand : ItemsStand
  pub addresses : (items : List LaidItem) (index : ℕ) → slice_get (placed_from 0 items) index
      ≡ option_map (λ item. item_laid_at (item.offset + shift_of index 0 items) item.size item) (slice_get items index)
  pub read : (text : InsnText) (condition : Option Condition) (near : Bool) (distance : ℕ) → jump_in text ≡ Some condition
      → Reads (jump_bytes condition near distance) (jump_written text (length (jump_bytes condition near distance)) (jump_distance near (jump_bytes condition near distance)))
  pub near : (condition : Option Condition) (distance : ℕ) → distance < 2 ^ 64 → IsSignedWithin (2 ^ 31) distance
      → jump_distance true (jump_bytes condition true distance) ≡ distance
  pub short : (condition : Option Condition) (distance : ℕ) → distance < 2 ^ 64 → IsSignedWithin (2 ^ 7) distance
      → jump_distance false (jump_bytes condition false distance) ≡ distance
  pub sized : (condition : Option Condition) (near : Bool) (distance : ℕ)
      → length (jump_bytes condition near distance) ≡ jump_size (is_conditional condition) (cond near 1 0)
  pub lead : DistancesLead
  pub room : SettledHaveRoom
  pub low : LayoutsAreLow
  pub adds : (one other : Form) → AreAdded one other
  pub starts : (no_warn : Bool) → PlacesStand (nothing_placed no_warn)
  pub places : (statements : List TokenStatement) (before placed : Placed) → place_all statements before ≡ Ok placed → PlacesStand before → PlacesStand placed
  pub few : (statements : List TokenStatement) (no_warn : Bool) (placed : Placed) → place_all statements (nothing_placed no_warn) ≡ Ok placed
      → length placed.table.symbols.symbols ≤ 2 ^ 24
  pub named : (s : TokenStatement) (later : List TokenStatement) (placed whole : Placed) (text : InsnText) → PlacesStand placed
      → (jump : IsJump (pos_at s.file s.line) s.tokens text placed) → place_all (s ∷ later) placed ≡ Ok whole → insn_in placed.syntax s ≡ Some text
      → AreUpTo (length whole.table.symbols.symbols) jump.forms.displacement.terms

-- THE ITEM

module _ (settled : AreSettled) (facts : JumpFacts) (symbols : SymbolMap) (sections : List LooseSection) (laid : LaidSections) (n item offset : ℕ) (pos : Pos)
    (condition : Option Condition) (field : Field) (is : layout_of symbols sections ≡ Ok laid) (stands : JumpStandsAt sections n item offset pos condition field)
    (takes : (stands.section.kind == 8) ≡ false) where
  abbrev section : LooseSection
  section = stands.section

  -- how far its rows are moved
  abbrev own : List ℕ
  own = (settled.layouts.section symbols sections laid n section is stands.found).0

  -- the section as it is laid out
  abbrev kept : SectionOf LaidItem
  kept = kept_section symbols own section

  found : slice_get laid n ≡ Some kept
  found = (settled.layouts.section symbols sections laid n section is stands.found).1

  filed : IsFiled laid n kept
  filed = record {
    found = found;
    takes_bytes = takes;
    laid = settled.layouts.placed symbols sections laid n kept is found;
    sized = settled.layouts.sized symbols sections laid n kept is found;
  }

  -- the item, as it is put and as it is laid out
  abbrev content : Content
  content = Growing (record { kind = Jump condition; field = stands.index })

  abbrev put : LooseItem
  put = item_behind offset (new_item pos content)

  got : (address : ℕ) × (size : ℕ) × (slice_get kept.items item ≡ Some (item_laid_at address size (laid_item put)))
  got = settled.layouts.item section.items own item put stands.item_there

  abbrev item_size : ℕ
  item_size = got.1

  abbrev settled_item : LaidItem
  settled_item = item_laid_at got.0 got.1 (laid_item put)

  -- its address is that of its place
  address_is : got.0 ≡ moved kept.items item offset
  address_is =
      let stays : slice_get (placed_from 0 kept.items) item ≡ Some settled_item =
      ap (λ (s : SectionOf LaidItem). slice_get s.items item) (settled.layouts.placed symbols sections laid n kept is found) ∙ got.2 in
      let moves : slice_get (placed_from 0 kept.items) item ≡ Some (item_laid_at (offset + shift_of item 0 kept.items) item_size settled_item) =
      facts.addresses kept.items item
      ∙ ap (option_map (λ (i : LaidItem). item_laid_at (i.offset + shift_of item 0 kept.items) i.size i)) got.2 in
      ap (λ (i : LaidItem). i.address) (same_Some _ _ (sym stays ∙ moves))

  -- its field, with assigned symbols expanded
  field_got : slice_get kept.fields stands.index ≡ Some (substituted_field (linked symbols) field)
  field_got = slice_get-map (substituted_field (linked symbols)) section.fields stands.index ∙ ap (option_map (substituted_field (linked symbols))) stands.field_there

  abbrev item_value : ℕ
  item_value = final_value symbols laid field

  -- the field has room for the value in its near form
  value_fits : holds field.role.kind field.size item_value ≡ true
  value_fits = field_held symbols sections laid n stands.index kept field is found field_got

  abbrev is_near : Bool
  is_near = not (item_size == 2)

  item_there : PieceAt (image_of symbols laid) (file_place symbols laid n item offset) (jump_bytes condition is_near item_value)
  item_there =
      let there = facts.stand symbols laid n item kept settled_item filed got.2 stands.within
      (settled.layouts.first offset item section.items own stands.before) in
      let holds_value = ap (value_or_zero symbols laid) field_got in
      let place : section_offset symbols laid n + got.0 ≡ file_place symbols laid n item offset =
      ap (λ at. section_offset symbols laid n + at) address_is
      ∙ ap (λ f. section_offset symbols laid n + option_map_or (λ (s : SectionOf LaidItem). moved s.items item offset) f 0) (sym found) in
      subst (λ v. PieceAt (image_of symbols laid) (file_place symbols laid n item offset) (jump_bytes condition is_near v)) holds_value
      (subst (λ at. PieceAt (image_of symbols laid) at (item_bytes symbols laid kept content item_size)) place there)

  -- the place behind it is as many bytes further as its size
  place_behind : (count : ℕ) → count ≡ item_size → file_place symbols laid n item offset + count ≡ file_place symbols laid n (item + 1) offset
  place_behind count same =
      let next = shift_next kept.items item 0 settled_item got.2 in
      let one : item + 1 ≡ suc item = omega arith in
      let here : file_place symbols laid n item offset ≡ section_offset symbols laid n + (offset + shift_of item 0 kept.items) =
      ap (λ f. section_offset symbols laid n + option_map_or (λ (s : SectionOf LaidItem). moved s.items item offset) f 0) found in
      let there : file_place symbols laid n (item + 1) offset ≡ section_offset symbols laid n + (offset + shift_of (suc item) 0 kept.items) =
      ap (λ f. section_offset symbols laid n + option_map_or (λ (s : SectionOf LaidItem). moved s.items (item + 1) offset) f 0) found
      ∙ ap (λ k. section_offset symbols laid n + (offset + shift_of k 0 kept.items)) one in
      omega (arith, next, here, there, same)

  -- it has the size of a level at which there is room for the value, where its row tells that
  has_room : AreLow symbols (levels_of (rows_of symbols (planned symbols sections))) (planned symbols sections)
      → IsInItem symbols (planned symbols sections) (substituted_field (linked symbols) field) → HasRoomFor symbols laid (Jump condition) item_size (substituted_field (linked symbols) field)
  has_room low in_item =
      let settled_is : laid ≡ settled_sections symbols (planned symbols sections) = settled.layouts.settled symbols sections laid is in
      subst (λ (all : LaidSections). HasRoomFor symbols all (Jump condition) item_size (substituted_field (linked symbols) field)) (sym settled_is)
      (facts.room symbols (planned symbols sections) n item stands.index kept settled_item (Jump condition) (substituted_field (linked symbols) field) low in_item
      (ap (λ (all : LaidSections). slice_get all n) (sym settled_is) ∙ found) got.2 refl field_got)

-- WHAT IT READS AS

-- a value in four bytes is signed
within_four : (value : ℕ) → fits_signed Four value ≡ true → IsSignedWithin (2 ^ 31) value
unfolding fits_signed
within_four value is = elim (or_cases (nat_lt value (2 ^ 31)) (nat_le (2 ^ 64 - 2 ^ 31) value) is) [
  | inl low ↦ inl (ltb-true value (2 ^ 31) low)
  | inr high ↦ inr (let past = leb-true (2 ^ 64 - 2 ^ 31) value high in omega (arith, past))
]

-- the size of a near jump is not that of a short one
not_short : (condition : Option Condition) (size level : ℕ) → size ≡ jump_size (is_conditional condition) (suc level) → not (size == 2) ≡ true
not_short None size level is = ap (λ n. not (n == 2)) is
not_short (Some condition) size level is = ap (λ n. not (n == 2)) is

-- the bytes of a jump are as many as the size of its level
length_is : JumpFacts → (condition : Option Condition) (size level value : ℕ) → size ≡ level_size (Jump condition) level
    → length (jump_bytes condition (not (size == 2)) value) ≡ size
length_is facts condition size zero value is =
    let near : not (size == 2) ≡ false = ap (λ n. not (n == 2)) is in
    facts.sized condition (not (size == 2)) value ∙ ap (λ b. jump_size (is_conditional condition) (cond b 1 0)) near ∙ sym is
length_is facts condition size (suc level) value is =
    let near = not_short condition size level is in
    facts.sized condition (not (size == 2)) value ∙ ap (λ b. jump_size (is_conditional condition) (cond b 1 0)) near ∙ sym is

-- a value for which there is room is held whole
room_held : JumpFacts → (condition : Option Condition) (size level : ℕ) (held : Option ℕ) → unwrap_or held 0 < 2 ^ 64 → fits_signed Four (unwrap_or held 0) ≡ true
    → size ≡ level_size (Jump condition) level → IfSome held (HasRoom (Jump condition) level)
    → jump_distance (not (size == 2)) (jump_bytes condition (not (size == 2)) (unwrap_or held 0)) ≡ unwrap_or held 0
room_held facts condition size zero None low fits is room =
    let near : not (size == 2) ≡ false = ap (λ n. not (n == 2)) is in
    rw near (facts.short condition 0 (omega arith) (inl (omega arith)))
room_held facts condition size zero (Some value) low fits is room =
    let near : not (size == 2) ≡ false = ap (λ n. not (n == 2)) is in
    rw near (facts.short condition value low (room refl))
room_held facts condition size (suc level) held low fits is room =
    let near = not_short condition size level is in
    rw near (facts.near condition (unwrap_or held 0) low (within_four (unwrap_or held 0) fits))

-- bytes that begin with those of a jump that holds its distance read as the jump that is written, and as no other instruction
abbrev jump_at : ReadsOneWay → JumpFacts → (text : InsnText) (condition : Option Condition) (near : Bool) (bytes rest : List ℕ) (at distance : ℕ)
    → jump_in text ≡ Some condition → drop at bytes ≡ jump_bytes condition near distance ++ rest
    → jump_distance near (jump_bytes condition near distance) ≡ distance → JumpReadsAt bytes at text distance
jump_at one_way facts text condition near bytes rest at distance jump stands held =
    let code = jump_bytes condition near distance in
    record {
      size = length code;
      reads = reads_code one_way bytes code rest at (jump_written text (length code) distance) stands
          (subst (λ d. Reads code (jump_written text (length code) d)) held (facts.read text condition near distance jump));
      ends = refl;
    }

-- the distance of a jump to a label leads there from its end
leads_to_label : JumpFacts → (symbols : SymbolMap) (laid : LaidSections) (pos : Pos) (text : InsnText) (forms : ValueForms) (placed : Placed)
    → LeadsToLabel symbols laid pos text forms placed
leads_to_label facts symbols laid pos text forms placed symbol number address target apart free there =
    let field = substituted_field (linked symbols) (jump_field pos text (jump_form forms) placed) in
    let got = facts.lead symbols laid field symbol number address (record { kind = refl; form = target; behind = omega arith }) free apart there in
    let value : jump_value symbols laid pos text forms placed ≡ got.0 = ap (λ v. unwrap_or v 0) got.1 in
    let leads = got.2 in
    omega (arith, value, leads)

-- a direct jump among statements that are placed reads back as it in the object of their layout
pub jump_reads_back : AreSettled → ReadsOneWay → TableFacts → PlaceFacts → JumpFacts → (no_warn : Bool) (front : List TokenStatement) (s : TokenStatement) (later : List TokenStatement)
    (text : InsnText) (condition : Option Condition) (placed whole : Placed) (worked_out : Option (List Frame)) (tables : Tables) (laid : LaidSections) (object : List ℕ)
    → AreCovered worked_out whole → place_all front (nothing_placed no_warn) ≡ Ok placed → place_all (front ++ s ∷ later) (nothing_placed no_warn) ≡ Ok whole
    → ComesTo (with_worked_out worked_out whole) tables → layout_of tables.symbols tables.sections ≡ Ok laid → object ≡ image_of tables.symbols laid
    → insn_in placed.syntax s ≡ Some text → jump_in text ≡ Some condition → has_no_bits laid placed.current ≡ false → JumpReadsBack object tables.symbols laid s text placed
jump_reads_back settled one_way table placing facts no_warn front s later text condition placed whole worked_out tables laid object covered front_is all framed_is is same written jump filed =
    let empty = nothing_placed no_warn in
    let begins = placing.begins no_warn in
    let there = facts.placed front s later empty placed whole text condition begins front_is all written jump in
    let symbols = tables.symbols in
    let sections = tables.sections in
    let pos = pos_at s.file s.line in
    let n = placed.current in
    let item = items_so_far placed in
    let offset = next_offset placed in
    let field = jump_field pos text (jump_form there.jump.forms) placed in
    let within = placing.within (front ++ s ∷ later) empty whole all begins in
    let with_table = is_framed table (with_worked_out worked_out whole) tables within framed_is in
    let stands = jump_stays whole.sections sections n item offset pos condition field with_table.grows there.stands in
    let takes : (stands.section.kind == 8) ≡ false =
    sym (ap (λ found. option_map_or (λ (kept : SectionOf LaidItem). kept.kind == no_bits) found false)
    (settled.layouts.section symbols sections laid n stands.section is stands.found).1) ∙ filed in
    let piece = item_there settled facts symbols sections laid n item offset pos condition field is stands takes in
    let at = file_place symbols laid n item offset in
    let distance = final_value symbols laid field in
    let small = final_small symbols laid field (held_small kind.Branch there.jump.forms.displacement (λ far. absurd cc)) in
    let fits = value_fits settled facts symbols sections laid n item offset pos condition field is stands takes in
    let bytes = item_size settled facts symbols sections laid n item offset pos condition field is stands takes in
    let low = facts.low.rows symbols sections laid is with_table.within in
    let places = facts.places (front ++ s ∷ later) empty whole all (facts.starts no_warn) in
    let rest = sym (ap (λ r. r >>= place_all (s ∷ later)) front_is) ∙ (sym (all_split front (s ∷ later) empty) ∙ all) in
    let named = facts.named s later placed whole text (facts.places front empty placed front_is (facts.starts no_warn)) there.jump rest written in
    let labels = labels_framed table (with_worked_out worked_out whole) tables within (covered_stand worked_out whole covered)
    (table.rows (front ++ s ∷ later) no_warn whole all) framed_is in
    let last = length whole.table.symbols.symbols in
    let stand = symbols_framed whole.sections sections whole.table.symbols symbols with_table.grows places.symbols labels in
    let own = names_own_place facts.adds sections symbols last there.jump.forms.displacement stand (facts.few (front ++ s ∷ later) no_warn whole all)
    (λ index form assigned. forms_framed sections whole.table.symbols symbols index form labels assigned) named in
    let room = has_room settled facts symbols sections laid n item offset pos condition field is stands takes low
    (stands_in_item symbols sections last stand n item offset pos condition field stands refl refl refl refl own
    (jump_constant there.jump.forms.displacement)) in
    let held = room_held facts condition bytes room.level (held_value symbols laid (substituted_field (linked symbols) field)) small fits room.sized room.room in
    record {
      jump = there.jump;
      reads = jump_at one_way facts text condition (not (bytes == 2)) object piece.rest at distance jump (ap (drop at) same ∙ drop_stands (image_of symbols laid) at _ piece) held;
      behind = place_behind settled facts symbols sections laid n item offset pos condition field is stands takes
          (length (jump_bytes condition (not (bytes == 2)) distance)) (length_is facts condition bytes room.level distance room.sized);
      leads = leads_to_label facts symbols laid pos text there.jump.forms placed;
    }

-- each direct jump that is handed out reads back as it
pub jumps_read_back : AreSettled → ReadsOneWay → TableFacts → PlaceFacts → JumpFacts → (no_warn : Bool) (worked_out : Option (List Frame)) (handed : List TokenStatement)
    (object : List ℕ) (from : Origin no_warn worked_out handed object) → AreCovered worked_out from.whole
    → JumpsReadBack no_warn handed object from.tables.symbols from.laid
jumps_read_back settled one_way table placing facts no_warn worked_out handed object from covered s text condition placed reached written jump filed =
    jump_reads_back settled one_way table placing facts no_warn reached.before s reached.after text condition placed from.whole worked_out from.tables from.laid object
    covered reached.places (all_placed no_warn worked_out handed object from s placed reached)
    (record { framed = from.framed; frames = from.frames; lines = from.lines }) from.settles from.image written jump filed
