-- The places of a layout, and the ends of a section in it.
use Rattle.std.proofs.Common.{◌≡◌, ℕ, ◌+◌, ◌^◌, ◌≤◌, List, Option, Some, None, true, map, length, sym, ap, ◌∙◌, subst, arith}
use Rattle.std.specs.Prelude.{slice_get}
use Rattle.std.specs.Option.{option_map_or}
use Rattle.std.proofs.lemmas.List.{length-map}
use Rattle.asm_base.specs.declared.places.Place.{Place}
use Rattle.asm_base.specs.declared.positions.Pos.{Pos}
use Rattle.asm_frags.specs.SectionOf.{SectionOf}
use Rattle.asm_frags.specs.Substituting.{laid_item}
use Rattle.asm_relax.specs.KeptSections.{kept_section, LayoutsKeepSections}
use Rattle.asm_relax.specs.Settling.{LaidItem, LaidSections}
use Rattle.elf_file.specs.Places.{PieceAt}
use Rattle.elf_object.specs.Places.{moved}
use Rattle.table_pieces.specs.declared.ends.SectionEnd.{SectionEnd}
use Rattle.table_pieces.specs.Found.{PlainAt, RunAt}
use Rattle.table_pieces.specs.Ready.{IsInSection}
use Rattle.piece_laws.specs.LaidTables.{IsSmall, place_address, end_address, LaidTable, StandsTo, at_place, PlacesRise, EndsStand}
use Rattle.piece_laws.proofs.LaidMarks.{laid_long}
use Rattle.piece_laws.proofs.Lists.{all_there}
use Rattle.piece_laws.proofs.Shifts.{shift_rises}
use Rattle.piece_laws.proofs.SectionInFile as section_in_file
use Rattle.piece_laws.proofs.TableSections.{PieceFacts, TableSection, table_section, image, base, kept, end_is, kept_long}
use Rattle.piece_laws.proofs.PieceBytes.{run_is, run_enough}
use Rattle.piece_laws.proofs.PiecesInFile.{pieces_stay}
use Rattle.piece_laws.proofs.Pointing.{stands_low}

-- PLACES

-- where a place of a section that is there stands
place_is : (laid : LaidSections) (number : ℕ) (section : SectionOf LaidItem) (place : Place) → slice_get laid number ≡ Some section
    → place_address laid (at_place number place) ≡ moved section.items place.item place.offset
place_is laid number section place there =
    ap (λ found. option_map_or (λ (s : SectionOf LaidItem). moved s.items place.item place.offset) found 0) there

rises_in : (found : Option (SectionOf LaidItem)) (first second : Place) → first.item ≤ second.item → first.offset ≤ second.offset
    → option_map_or (λ (s : SectionOf LaidItem). moved s.items first.item first.offset) found 0
    ≤ option_map_or (λ (s : SectionOf LaidItem). moved s.items second.item second.offset) found 0
rises_in None first second items bytes = omega arith
rises_in (Some section) first second items bytes =
    let more = shift_rises section.items 0 first.item second.item items in
    omega (arith, more, bytes)

beside_in : (laid : LaidSections) (number : ℕ) (section : SectionOf LaidItem) (first second : Place) → slice_get laid number ≡ Some section
    → first.item ≡ second.item → place_address laid (at_place number second) + first.offset ≡ place_address laid (at_place number first) + second.offset
beside_in laid number section first second there same =
    let one = place_is laid number section first there in
    let other = place_is laid number section second there in
    let shifts = ap (λ (n : ℕ). moved section.items n 0) same in
    omega (arith, one, other, shifts)

module _ (layouts : LayoutsKeepSections) (t : LaidTable) (number : ℕ) (place : Place) (has : IsInSection t.sections number place) where
  section_there : (section : SectionOf LaidItem) × (slice_get t.laid number ≡ Some section)
  section_there =
      let own = layouts.section t.symbols t.sections t.laid number has.held t.is has.there in
      (kept_section t.symbols own.0 has.held, own.1)

  place_low : place_address t.laid (at_place number place) ≤ 2 ^ 30
  place_low =
      let own = layouts.section t.symbols t.sections t.laid number has.held t.is has.there in
      let section : SectionOf LaidItem = kept_section t.symbols own.0 has.held in
      let all = (all_there IsSmall t.laid number section own.1 t.low.small).size in
      let long = laid_long own.0 (map laid_item has.held.items) ∙ length-map has.held.items laid_item in
      let items = has.items in
      let bytes = has.bytes in
      let more = shift_rises section.items 0 place.item (length section.items) (omega (arith, long, items)) in
      let there = place_is t.laid number section place own.1 in
      omega (arith, all, more, there, bytes)

pub places_rise : LayoutsKeepSections → PlacesRise
places_rise layouts = record {
  rise = λ laid number first second items bytes. rises_in (slice_get laid number) first second items bytes;
  beside = beside_in;
  there = section_there layouts;
  low = place_low layouts;
}

-- ENDS

module _ (facts : PieceFacts) (table : LaidTable) where
  abbrev t : TableSection
  t = table_section facts table

  end_low : (end : SectionEnd) → StandsTo table.held end → end_address table.laid table.number end ≤ 2 ^ 30
  end_low end stands = let low = stands_low facts t end stands in let here = end_is facts t end in omega (arith, low, here)

  run_reaches : (pos : Pos) (end last : SectionEnd) (count : ℕ) → RunAt table.held pos end last.items → last.bytes ≡ end.bytes + count
      → end_address table.laid table.number last ≡ end_address table.laid table.number end + count
  run_reaches pos end last count run bytes =
      let moves = run_is facts t pos end last.items run in
      let here = end_is facts t end in
      let there = end_is facts t last in
      omega (arith, moves, here, there, bytes)

  plain_there : (count offset : ℕ) (bytes : List ℕ) → PlainAt table.held count offset bytes
      → PieceAt (image facts t) (base facts t + place_address table.laid (at_place table.number (record { item = count; offset = offset }))) bytes
  plain_there count offset bytes at =
      let one : SectionEnd = record { items = count; bytes = offset; in_run = true } in
      subst (λ (n : ℕ). PieceAt (image facts t) (base facts t + n) bytes) (sym (end_is facts t one))
      (section_in_file.plain_stands facts.file t.symbols t.sections t.laid t.number t.held t.is t.found t.takes t.low count offset bytes at)

  last_there : (end : SectionEnd) → length table.held.items ≡ end.items → length table.held.bytes ≡ end.bytes
      → (section : SectionOf LaidItem) × (slice_get table.laid table.number ≡ Some section)
      × (moved section.items (length section.items) (length section.bytes) ≡ end_address table.laid table.number end)
  last_there end items bytes =
      let long = kept_long facts t in
      let here = end_is facts t end in
      let count : length (kept facts t).items ≡ end.items = omega (arith, long, items) in (
        kept facts t,
        section_in_file.kept_there facts.file t.symbols t.sections t.laid t.number t.held t.is t.found t.takes t.low,
        ap (λ (n : ℕ). moved (kept facts t).items n (length table.held.bytes)) count ∙ ap (λ (n : ℕ). moved (kept facts t).items end.items n) bytes ∙ sym here,
      )

pub ends_stand : PieceFacts → EndsStand
ends_stand facts = record {
  pieces = λ table tables pos end pieces stands stand. pieces_stay facts (table_section facts table) tables pos end pieces stands stand;
  low = end_low facts;
  run = run_reaches facts;
  items = λ table pos end count enough run. run_enough facts (table_section facts table) pos end count enough run;
  plain = plain_there facts;
  last = last_there facts;
}
