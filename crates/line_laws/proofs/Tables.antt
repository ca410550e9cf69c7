-- A line table reads in the file.
use Rattle.std.proofs.Common.{◌≡◌, ℕ, zero, suc, ◌+◌, ◌-◌, ◌^◌, ◌%◌, ◌<◌, ◌≤◌, ◌==◌, inl, inr, true, false, List, [], ◌∷◌, ◌++◌, All, Option, Some, None, Ok, take, length, refl, sym, ap, ◌∙◌, subst, arith, append_assoc, append-nil, length-append}
use Rattle.std.specs.Prelude.{◌&&◌, codes, is_none, slice_get, IsSomeAnd}
use Rattle.std.specs.Option.{option_map_or, option_and_then}
use Rattle.std.specs.Str.{bytes_eq}
use Rattle.std.proofs.lemmas.List.Elements.{All-nil, All-cons, All-head, All-tail, All-get_or}
use Rattle.std.proofs.lemmas.List.Quantifiers.{position-Some}
use Rattle.std.proofs.lemmas.Option.{none-some, same_Some, slice_get_within, get_or_from_slice_get}
use Rattle.asm_base.specs.declared.places.Place.{Place}
use Rattle.asm_base.specs.declared.places.SectionPlace.{SectionPlace}
use Rattle.asm_base.specs.declared.positions.Pos.{Pos}
use Rattle.asm_expr.specs.Forms.{wrapped}
use Rattle.asm_frags.specs.declared.fields.FieldSize.TheVariants.{Four}
use Rattle.asm_frags.specs.declared.groups.Group.{Group}
use Rattle.asm_frags.specs.Fields.{low_bytes, own_place}
use Rattle.asm_frags.specs.SectionOf.{SectionOf, is_section_named}
use Rattle.asm_frags.specs.Writing.{LooseSection, takes_zeros_alone}
use Rattle.asm_relax.specs.KeptSections.{kept_section, LayoutsKeepSections}
use Rattle.asm_relax.specs.Settling.{LaidItem, LaidSections, layout_of}
use Rattle.section_laws.specs.Within.{IsWithin}
use Rattle.elf_file.specs.Places.{PieceAt}
use Rattle.elf_object.specs.Image.{image_of}
use Rattle.elf_object.specs.Places.{section_offset, moved}
use Rattle.line_rows.specs.Header.{line_at}
use Rattle.line_rows.specs.Places.{placed_due}
use Rattle.line_rows.specs.Tables.{File, ArePaths, AreFiles, entries_then, table_bytes}
use Rattle.line_rows.specs.Writing as writing
use Rattle.line_rows.specs.Writing.{IsRow, AreSequences, program_bytes, row_due}
use Rattle.line_directives.specs.declared.sequences.Sequence.{Sequence}
use Rattle.line_directives.specs.Meanings.{RowAt, rows_of, rows_onto, RowsAreMeant, RowsAreMade}
use Rattle.line_directives.specs.Numbered.{under}
use Rattle.line_directives.specs.Order.{IsUpTo, RowsRise}
use Rattle.line_directives.specs.Sequences.{with_row_at}
use Rattle.line_directives.specs.Taking.{LineTable, LineDirective, table_of}
use Rattle.line_table.specs.FoundTables.{TableStands, IsPlaced}
use Rattle.line_table.specs.Header.{directories_of, files_of, header_bytes}
use Rattle.line_table.specs.Placing.{nothing_put, length_piece, unit_end, unit_pieces, table_put, new_table, placed}
use Rattle.line_table.specs.Sequences.{place_in, end_in, sequences_from}
use Rattle.line_table.specs.StandingLines.{RowPlacesStand, LabelsStand}
use Rattle.table_pieces.specs.declared.ends.SectionEnd.{SectionEnd}
use Rattle.table_pieces.specs.Ends.{behind_pieces, run_end, no_end, end_of}
use Rattle.table_pieces.specs.Labels.{NamesPlace, PlacesAreLabels}
use Rattle.table_pieces.specs.Made.{Made, pieces_bytes, AreMade}
use Rattle.table_pieces.specs.Pieces.{Piece, plain, Tables, pieces_put}
use Rattle.table_pieces.specs.Ready.{IsInSection, SectionsKeepPlaces}
use Rattle.table_pieces.specs.Standing.{Extends, OneExtends}
use Rattle.table_pieces.specs.StandingPlaces.{HoldsItems}
use Rattle.piece_laws.specs.HeldDistances.{NamesStay}
use Rattle.piece_laws.specs.LaidTables.{IsLow, LaidTable, StandsTo, place_address}
use Rattle.piece_laws.specs.PiecesInFile.{IsNear, AllFit, AreInFile}
use Rattle.piece_laws.specs.Pointers.{HoldsAddress}
use Rattle.line_laws.specs.PlacedLines.{at_begin, RowsReady, TablesReady}
use Rattle.line_laws.specs.TableReads.{rows_before, written_table, address_behind, SequenceReads, IsLineSection, LineTableReads, LineTablesRead}
use Rattle.line_laws.proofs.HeaderBytes.{entries_many, unit_long, table_is, table_long}
use Rattle.line_laws.proofs.Parts.{stands_both, stands_behind}
use Rattle.line_laws.proofs.Paths.{table_has, directories_are, files_are}
use Rattle.line_laws.proofs.PieceFacts.{PieceFacts, at_end}
use Rattle.line_laws.proofs.RowPlaces.{up_to_end}
use Rattle.line_laws.proofs.RowRanges.{HasNumbers, rows_range, section_there}
use Rattle.line_laws.proofs.SequenceBytes.{RowFacts, sequence_made, rows_at}
use Rattle.line_laws.proofs.SequencesInFile.{InSection, IsOf, AreOf, IsFound, SequencesStand, sequences_stand}

-- what is known of written tables: they read as their sequences mean
abbrev pub TablesReadBack : Type 0
TablesReadBack = (directories : List (List ℕ)) (files : List File) (sequences : List writing.Sequence) (seq at : ℕ)
    → ArePaths directories → AreFiles files → AreSequences sequences
    → length (entries_then directories files (program_bytes sequences)) + 8 < 0xfffffff0
    → length directories < 2 ^ 64 → length files < 2 ^ 64
    → line_at (table_bytes directories files (program_bytes sequences)) seq at ≡ option_and_then (row_due at) (slice_get sequences seq)

-- and of all line tables
pub record TableFacts : Type 0 where
  pub pieces : PieceFacts
  pub rows : RowFacts
  pub read : TablesReadBack
  pub meant : RowsAreMeant
  pub made : RowsAreMade
  pub layouts : LayoutsKeepSections
  pub keeping : SectionsKeepPlaces
  pub found : (pos : Pos) (lines : LineTable) (tables after : Tables) → lines.first ≡ Some pos → All IsWithin tables.sections → placed lines tables ≡ Ok after
      → IsPlaced pos lines tables after
  pub behind : (section : ℕ) (pos : Pos) (lines : LineTable) (tables : Tables) → OneExtends section tables.sections (table_put section pos lines tables).sections
  pub labels : LabelsStand

-- LISTS

-- what holds of all holds of the one that is there
all_there : {X : Type 0} (P : X → Type 0) (xs : List X) (index : ℕ) (x : X) → slice_get xs index ≡ Some x → All P xs → P x
all_there P xs index x there all = subst P (get_or_from_slice_get xs index x x there) (All-get_or P xs index x (slice_get_within xs index x there) all)

last_there : (xs : List LooseSection) (x : LooseSection) → slice_get (xs ++ x ∷ []) (length xs) ≡ Some x
last_there [] x = refl
last_there (y ∷ xs) x = last_there xs x

first_there : (xs ys : List LooseSection) (index : ℕ) (x : LooseSection) → slice_get xs index ≡ Some x → slice_get (xs ++ ys) index ≡ Some x
first_there [] ys index x there = absurd (none-some x there)
first_there (y ∷ xs) ys zero x there = there
first_there (y ∷ xs) ys (suc index) x there = first_there xs ys index x there

-- the end of a section that is there
end_there : (section : ℕ) (sections : List LooseSection) (held : LooseSection) → slice_get sections section ≡ Some held
    → end_in section sections ≡ record { item = length held.items; offset = length held.bytes }
unfolding end_of
end_there section sections held there =
    ap (λ (end : SectionEnd). record { item = end.items; offset = end.bytes }) (ap (λ found. option_map_or run_end found no_end) there)

-- a length counts from behind itself to the end
counted : (value here rest end : ℕ) → value < 2 ^ 64 → wrapped (value + here) ≡ wrapped (end + (2 ^ 64 - 4)) → end ≡ here + (4 + rest) → end < 2 ^ 32
    → value % 2 ^ 32 ≡ rest
counted value here rest end within leads ends low = omega (arith, within, leads, ends, low)

-- THE TABLE

module _ (facts : TableFacts) (pos : Pos) (directives : List LineDirective) (lines : LineTable) (tables after : Tables) (laid : LaidSections)
    (means : table_of directives ≡ Ok lines) (ready : TablesReady tables) (rows_ready : RowsReady tables.sections directives)
    (few : length after.symbols.symbols ≤ own_place)
    (is : layout_of after.symbols after.sections ≡ Ok laid) (low : IsLow after laid) (made : placed lines tables ≡ Ok after) (put : IsPlaced pos lines tables after) where
  -- the symbols are those that were placed
  first_symbols : put.first.symbols ≡ tables.symbols
  first_symbols = elim put.begins [
    | inl there ↦ ap (λ (t : Tables). t.symbols) there.1
    | inr new ↦ ap (λ (t : Tables). t.symbols) new.2
  ]

  -- the section has its name
  first_named : (held : LooseSection) → slice_get put.first.sections put.section ≡ Some held → is_section_named (codes ".debug_line") held ≡ true
  first_named held there = elim put.begins [
    | inl old ↦
        (let found : slice_get tables.sections put.section ≡ Some held = sym (ap (λ (t : Tables). slice_get t.sections put.section) old.1) ∙ there in
        let named = position-Some (is_section_named (codes ".debug_line")) tables.sections put.section held old.0 in
        sym (ap (is_section_named (codes ".debug_line")) (get_or_from_slice_get tables.sections put.section held held found)) ∙ named.1)
    | inr new ↦
        (let found : slice_get (tables.sections ++ new_table ∷ []) (length tables.sections) ≡ Some held =
        ap (slice_get (tables.sections ++ new_table ∷ [])) (sym new.1) ∙ sym (ap (λ (t : Tables). slice_get t.sections put.section) new.2) ∙ there in
        ap (is_section_named (codes ".debug_line")) (same_Some held new_table (sym found ∙ last_there tables.sections new_table)))
  ]

  -- a section that was there is as it was
  first_stays : (number : ℕ) (held : LooseSection) → slice_get tables.sections number ≡ Some held → slice_get put.first.sections number ≡ Some held
  first_stays number held there = elim put.begins [
    | inl old ↦ (ap (λ (t : Tables). slice_get t.sections number) old.1 ∙ there)
    | inr new ↦
        (ap (λ (t : Tables). slice_get t.sections number) new.2 ∙ first_there tables.sections (new_table ∷ []) number held there)
  ]

  -- SECTIONS WITH ROWS

  -- a section with rows is there, where its rows stand
  record HasRows (section : ℕ) (row : RowAt) (rows : List RowAt) : Type 0 where
    held : LooseSection
    there : slice_get tables.sections section ≡ Some held
    rise : RowsRise row.0 rows (end_in section tables.sections)
    first_is : IsRow row.1
    rows_are : All (λ (row : RowAt). IsRow row.1) rows
    same : end_in section put.first.sections ≡ end_in section tables.sections
    first_up : IsUpTo row.0 (end_in section tables.sections)

  has_rows : (section : ℕ) (row : RowAt) (rows : List RowAt) → rows_of section directives ≡ row ∷ rows → HasRows section row rows
  has_rows section row rows meant =
      by (slice_get tables.sections section) refl (section_there tables.sections section true 0 directives row rows rows_ready.stand meant)
    where
      by : (found : Option LooseSection) → slice_get tables.sections section ≡ found → IsSomeAnd found (λ held. takes_zeros_alone held ≡ false) → HasRows section row rows
      by None there stands = absurd stands
      by (Some held) there stands =
          let rise : RowsRise at_begin (row ∷ rows) (end_in section tables.sections) =
          subst (λ (all : List RowAt). RowsRise at_begin all (end_in section tables.sections)) meant (rows_ready.rise section) in
          let range : All HasNumbers (row ∷ rows) = subst (All HasNumbers) meant (rows_range section true 0 directives (omega arith) rows_ready.ranges) in
          record {
            held = held;
            there = there;
            rise = rise.1;
            first_is = All-head HasNumbers row rows range;
            rows_are = All-tail HasNumbers row rows range;
            same = end_there section put.first.sections held (first_stays section held there) ∙ sym (end_there section tables.sections held there);
            first_up = up_to_end row.0 rows (end_in section tables.sections) rise.1;
          }

  -- the end of a section that is there is in it
  end_in_section : (section : ℕ) (held : LooseSection) → slice_get tables.sections section ≡ Some held → IsInSection tables.sections section (end_in section tables.sections)
  end_in_section section held there =
      let end = end_there section tables.sections held there in
      let items = ap (λ (p : Place). p.item) end in
      let bytes = ap (λ (p : Place). p.offset) end in
      record { held = held; there = there; items = omega (arith, items); bytes = omega (arith, bytes) }

  rows_hold : (section : ℕ) (held : LooseSection) (last : Place) (rows : List RowAt) → slice_get tables.sections section ≡ Some held
      → RowsRise last rows (end_in section tables.sections) → All (λ (row : RowAt). HoldsItems tables.sections section row.0.item) rows
  rows_hold section held last [] there rise = All-nil (λ (row : RowAt). HoldsItems tables.sections section row.0.item)
  rows_hold section held last (row ∷ rows) there rise =
      let up = (up_to_end row.0 rows (end_in section tables.sections) rise.1).0 in
      let items = ap (λ (p : Place). p.item) (end_there section tables.sections held there) in
      All-cons (λ (row : RowAt). HoldsItems tables.sections section row.0.item) row rows
      (record { held = held; there = there; enough = omega (arith, up, items) }) (rows_hold section held row.0 rows there rise.1)

  -- the places of all rows stand in their sections
  row_places : RowPlacesStand tables.sections directives
  row_places section = by (rows_of section directives) refl (rows_ready.rise section)
    where
      by : (rows : List RowAt) → rows_of section directives ≡ rows → RowsRise at_begin rows (end_in section tables.sections)
          → All (λ (row : RowAt). HoldsItems tables.sections section row.0.item) rows
      by [] meant rise = All-nil (λ (row : RowAt). HoldsItems tables.sections section row.0.item)
      by (row ∷ rows) meant rise = let has = has_rows section row rows meant in rows_hold section has.held at_begin (row ∷ rows) has.there rise

  module _ (before held : LooseSection) (was : slice_get put.first.sections put.section ≡ Some before) (there : slice_get after.sections put.section ≡ Some held)
      (takes : takes_zeros_alone before ≡ false) (more : Extends before held) where
    own : (shifts : List ℕ) × (slice_get laid put.section ≡ Some (kept_section after.symbols shifts held))
    own = facts.layouts.section after.symbols after.sections laid put.section held is there

    -- the section of the table, in the end
    abbrev section : LaidTable
    section = record {
      symbols = after.symbols;
      sections = after.sections;
      laid = laid;
      number = put.section;
      held = held;
      is = is;
      found = there;
      takes = ap (λ kind. kind == 8) more.kind ∙ takes;
      within = put.within;
      few = few;
      stand = facts.keeping.symbols tables.sections after.sections tables.symbols after.symbols put.grows ready.stand
          (facts.labels directives lines tables after ready.within means row_places made);
      low = record { small = low.small; rows = low.rows };
    }

    abbrev first : Tables
    first = put.first

    -- SEQUENCES

    in_section : (number : ℕ) (row : RowAt) (rows : List RowAt) → rows_of number directives ≡ row ∷ rows
        → InSection facts.pieces facts.rows section pos number row rows (end_in number first.sections)
    in_section number row rows meant =
        let has = has_rows number row rows meant in
        subst (InSection facts.pieces facts.rows section pos number row rows) (sym has.same) (record {
          rise = has.rise;
          first_is = has.first_is;
          rows_are = has.rows_are;
          there = facts.keeping.place tables.sections after.sections number (end_in number tables.sections) put.grows (end_in_section number has.held has.there);
        })

    of_rows : (number : ℕ) (sequence : Sequence) → Some sequence ≡ rows_onto None (rows_of number directives)
        → IsOf facts.pieces facts.rows section pos first.sections directives number sequence
    of_rows number sequence same = by (rows_of number directives) refl same
      where
        by : (rows : List RowAt) → rows_of number directives ≡ rows → Some sequence ≡ rows_onto None rows
            → IsOf facts.pieces facts.rows section pos first.sections directives number sequence
        by [] meant same = absurd (let none : ⊥ = cc in none)
        by (row ∷ rows) meant same = record {
          first = row;
          rows = rows;
          meant = meant;
          is = same_Some sequence (sequence_made row rows) (same ∙ facts.made (with_row_at row.0 row.1 None) rows);
          has = in_section number row rows meant;
        }

    are_of : (number : ℕ) (sequences : List (Option Sequence)) → ((index : ℕ) → under index sequences ≡ rows_onto None (rows_of (number + index) directives))
        → AreOf facts.pieces facts.rows section pos first.sections directives number sequences
    are_of number [] each = tt
    are_of number (None ∷ sequences) each =
        are_of (number + 1) sequences (λ index. each (suc index)
        ∙ ap (λ (n : ℕ). rows_onto None (rows_of n directives)) (let on : number + suc index ≡ number + 1 + index = omega arith in on))
    are_of number (Some sequence ∷ sequences) each = (
      of_rows number sequence (each 0 ∙ ap (λ (n : ℕ). rows_onto None (rows_of n directives)) (let on : number + 0 ≡ number = omega arith in on)),
      are_of (number + 1) sequences (λ index. each (suc index)
          ∙ ap (λ (n : ℕ). rows_onto None (rows_of n directives)) (let on : number + suc index ≡ number + 1 + index = omega arith in on)),
    )

    all_of : AreOf facts.pieces facts.rows section pos first.sections directives 0 lines.sequences
    all_of =
        are_of 0 lines.sequences
        (λ index. facts.meant directives lines index means ∙ ap (λ (n : ℕ). rows_onto None (rows_of n directives)) (let same : index ≡ 0 + index = omega arith in same))

    -- THE UNIT

    module _ (table : TableStands held put.section pos lines first) where
      abbrev header : List ℕ
      header = header_bytes lines.files

      abbrev end : SectionPlace
      end = unit_end put.section first.sections lines

      abbrev front : List Piece
      front = length_piece end ∷ plain header ∷ []

      abbrev unit : List Piece
      unit = unit_pieces put.section first.sections lines

      abbrev rest : List Piece
      rest = sequences_from first.sections 0 lines.sequences

      abbrev behind : SectionEnd
      behind = behind_pieces front nothing_put

      abbrev last : SectionEnd
      last = behind_pieces unit nothing_put

      abbrev next : Tables
      next = pieces_put put.section pos front first

      abbrev file : List ℕ
      file = image_of after.symbols laid

      abbrev base : ℕ
      base = section_offset after.symbols laid put.section

      start_is : at_end section nothing_put ≡ 0
      start_is = by (slice_get laid put.section)
        where
          by : (found : Option (SectionOf LaidItem)) → option_map_or (λ (s : SectionOf LaidItem). moved s.items 0 0) found 0 ≡ 0
          by None = refl
          by (Some s) = refl

      start_stands : StandsTo held nothing_put
      start_stands = record { items = omega arith; bytes = omega arith }

      last_stands : StandsTo held last
      last_stands = facts.pieces.file.ends.pieces section first pos nothing_put unit start_stands table.pieces

      behind_stands : StandsTo held behind
      behind_stands = facts.pieces.file.ends.pieces section first pos nothing_put front start_stands (table.pieces.0, (table.pieces.1.0, tt))

      known : PlacesAreLabels first.symbols
      known = subst PlacesAreLabels (sym first_symbols) ready.named

      stays : NamesStay (pieces_put put.section pos unit first).symbols after.symbols
      stays symbol at there = subst (λ (t : Tables). NamesPlace t.symbols symbol at) (sym put.put) there

      front_fits : AllFit after.sections laid put.section front
      front_fits =
          let size : IsNear after.sections laid put.section (record { to = _; from = _; plus = 2 ^ 64 - 4 }) =
          record { one = refl; plus = omega arith; to = record { held = held; there = there; enough = last_stands.items }; from = tt } in
          (size, (tt, tt))

      front_made : AreInFile after.symbols laid put.section front nothing_put
      front_made =
          facts.pieces.file.pieces section first pos nothing_put (length_piece end) (plain header ∷ []) start_stands known
          (λ symbol at named. stays symbol at (facts.pieces.labels.stays next.symbols (pieces_put put.section pos rest next).symbols symbol at
          (facts.pieces.labels.pieces put.section pos rest next) named)) front_fits (table.pieces.0, (table.pieces.1.0, tt))

      sequences : SequencesStand facts.pieces facts.rows section pos first.sections directives 0 lines.sequences behind
      sequences =
          let reach = front_made.reach in
          let place : base + at_end section nothing_put + length (pieces_bytes front front_made.mades) ≡ base + at_end section behind = omega (arith, reach) in
          sequences_stand facts.pieces facts.rows section pos first.sections directives 0 lines.sequences next behind all_of behind_stands
          (facts.pieces.labels.known first.symbols next.symbols known (facts.pieces.labels.pieces put.section pos front first)) stays table.pieces.1.1
          (subst (λ (at : ℕ). PieceAt file at []) place (stands_behind file (pieces_bytes front front_made.mades) (base + at_end section nothing_put) front_made.stands))

      abbrev program : List ℕ
      program = program_bytes sequences.written

      -- the length and the header
      record FrontIs (mades : List Made) : Type 0 where
        value : ℕ
        within : value < 2 ^ 64
        leads : wrapped (value + at_end section nothing_put) ≡ wrapped (at_end section last + (2 ^ 64 - 4))
        all : pieces_bytes front mades ≡ low_bytes Four value ++ header
        long : length (pieces_bytes front mades) ≡ 4 + length header

      front_is : (mades : List Made) → AreMade (place_address laid) (at_end section nothing_put) front mades → FrontIs mades
      unfolding low_bytes
      front_is [] is_made = absurd is_made
      front_is (one ∷ []) is_made = absurd is_made.1
      front_is (one ∷ two ∷ []) is_made =
          let all : pieces_bytes front (one ∷ two ∷ []) ≡ low_bytes Four one.value ++ header = ap (λ (bytes : List ℕ). low_bytes Four one.value ++ bytes) (append-nil header) in
          record {
            value = one.value;
            within = is_made.0.within;
            leads = is_made.0.spans;
            all = all;
            long = ap length all ∙ (let size : length (low_bytes Four one.value ++ header) ≡ 4 + length header = omega arith in size);
          }
      front_is (one ∷ two ∷ three ∷ mades) is_made = absurd is_made.1.1

      is_front : FrontIs front_made.mades
      is_front = front_is front_made.mades front_made.are_made

      behind_is : at_end section behind ≡ 4 + length header
      behind_is =
          let reach = front_made.reach in
          let start = start_is in
          let long = is_front.long in
          omega (arith, reach, start, long)

      last_is : at_end section last ≡ 4 + length header + length program
      last_is = let first = behind_is in let reach = sequences.reach in omega (arith, first, reach)

      last_low : at_end section last ≤ 2 ^ 30
      last_low = facts.pieces.file.ends.low section last last_stands

      -- the length counts the header and the program
      counts : is_front.value % 2 ^ 32 ≡ length (header ++ program)
      counts =
          let start = start_is in
          let end = last_is in
          let low = last_low in
          let long = length-append header program in
          counted is_front.value (at_end section nothing_put) (length (header ++ program)) (at_end section last) is_front.within is_front.leads
          (omega (arith, start, end, long)) (omega (arith, low))

      table_stands : PieceAt file base (written_table lines sequences.written)
      table_stands =
          let reach = front_made.reach in
          let place : base + at_end section nothing_put + length (pieces_bytes front front_made.mades) ≡ base + at_end section behind = omega (arith, reach) in
          let begins : base + at_end section nothing_put ≡ base = (let start = start_is in omega (arith, start)) in
          let all : pieces_bytes front front_made.mades ++ program ≡ written_table lines sequences.written =
          ap (λ (bytes : List ℕ). bytes ++ program) is_front.all ∙ append_assoc (low_bytes Four is_front.value) header program
          ∙ table_is lines.files program is_front.value counts in
          subst (PieceAt file base) all (subst (λ (at : ℕ). PieceAt file at (pieces_bytes front front_made.mades ++ program)) begins
          (stands_both file (pieces_bytes front front_made.mades) program (base + at_end section nothing_put) front_made.stands
          (subst (λ (at : ℕ). PieceAt file at program) (sym place) sequences.stands)))

      -- to the section's end
      table_whole : IsSomeAnd (slice_get laid put.section) (λ held. moved held.items (length held.items) (length held.bytes) ≡ length (written_table lines sequences.written))
      table_whole =
          let found = facts.pieces.file.ends.last section last table.ends.items table.ends.bytes in
          let end = last_is in
          let long = table_long lines.files program in
          subst (λ (found : Option (SectionOf LaidItem)). IsSomeAnd found (λ held. moved held.items (length held.items) (length held.bytes) ≡ length (written_table lines sequences.written)))
          (sym found.1) (found.2 ∙ end ∙ sym long)

      -- what is known of its sequences
      table_line : (number at : ℕ) → line_at (written_table lines sequences.written) number at ≡ option_and_then (row_due at) (slice_get sequences.written number)
      table_line number at =
          let has = table_has directives lines rows_ready.ranges means in
          let many = entries_many (directories_of lines.files) (files_of lines.files) program in
          let long = unit_long lines.files program in
          let all = length-append header program in
          let end = last_is in
          let low = last_low in
          let short : length (entries_then (directories_of lines.files) (files_of lines.files) program) + 8 < 2 ^ 31 = omega (arith, long, all, end, low) in
          let directories = many.0 in
          let files = many.1 in
          let few : length (directories_of lines.files) < 2 ^ 64 = omega (arith, directories, short) in
          facts.read (directories_of lines.files) (files_of lines.files) sequences.written number at (directories_are lines.files has) (files_are lines.files few has)
          sequences.good (omega (arith, short)) few (omega (arith, files, short))

      found_reads : (number : ℕ) (row : RowAt) (rows : List RowAt) → rows_of number directives ≡ row ∷ rows
          → IsFound facts.pieces facts.rows section pos first.sections directives number sequences.written (rows_before number lines) (at_end section behind)
          → SequenceReads after.symbols laid put.section lines sequences.written number (end_in number tables.sections) row rows
      found_reads number row rows meant found =
          let has = has_rows number row rows meant in
          let heads : row ∷ rows ≡ found.first ∷ found.rows = sym meant ∙ found.meant in
          let first_row : found.first ≡ row = cc in
          let other_rows : found.rows ≡ rows = cc in
          let far = table_long lines.files (program_bytes (take (rows_before number lines) sequences.written)) in
          let start = behind_is in
          let place : at_end section behind + length (program_bytes (take (rows_before number lines) sequences.written)) + 3
          ≡ address_behind lines (take (rows_before number lines) sequences.written) = omega (arith, far, start) in
          record {
            start = subst (λ (one : RowAt). IsSomeAnd (slice_get laid put.section)
                (λ held. HoldsAddress after.symbols laid put.section held (address_behind lines (take (rows_before number lines) sequences.written)) (place_in number one.0))) first_row
                (subst (λ (offset : ℕ). IsSomeAnd (slice_get laid put.section) (λ held. HoldsAddress after.symbols laid put.section held offset (place_in number found.first.0))) place
                found.start);
            reads = λ at. table_line (rows_before number lines) at
                ∙ ap (option_and_then (row_due at)) found.there
                ∙ found.due at
                ∙ ap (λ (one : RowAt). placed_due at (rows_at (place_address laid) number one found.rows (end_in number first.sections))) first_row
                ∙ ap (λ (others : List RowAt). placed_due at (rows_at (place_address laid) number row others (end_in number first.sections))) other_rows
                ∙ ap (λ (stop : Place). placed_due at (rows_at (place_address laid) number row rows stop)) has.same;
          }

      each_reads : (number : ℕ) (row : RowAt) (rows : List RowAt) → rows_of number directives ≡ row ∷ rows
          → SequenceReads after.symbols laid put.section lines sequences.written number (end_in number tables.sections) row rows
      each_reads number row rows meant =
          let there = facts.meant directives lines number means ∙ ap (rows_onto None) meant ∙ facts.made (with_row_at row.0 row.1 None) rows in
          found_reads number row rows meant
          (subst (λ (n : ℕ). IsFound facts.pieces facts.rows section pos first.sections directives n sequences.written (rows_before number lines) (at_end section behind))
          (let same : 0 + number ≡ number = omega arith in same) (sequences.each number (sequence_made row rows) there))

      -- the section keeps its name, and is in no group
      held_named : is_section_named (codes ".debug_line") held ≡ true
      held_named =
          ap (λ (group : Option Group). is_none group && bytes_eq (codes ".debug_line") held.name) more.group
          ∙ (ap (λ (name : List ℕ). is_none before.group && bytes_eq (codes ".debug_line") name) more.name ∙ first_named before was)

      -- the table reads in the file
      table_reads : LineTableReads file after.symbols laid tables.sections directives lines
      table_reads = record {
        number = put.section;
        section = subst (λ found. IsSomeAnd found IsLineSection) (sym own.1)
            (record { named = held_named; filed = section.takes });
        sequences = sequences.written;
        count = sequences.count;
        stands = table_stands;
        whole = table_whole;
        each = each_reads;
      }

  by_last : (before : LooseSection) → slice_get put.first.sections put.section ≡ Some before → takes_zeros_alone before ≡ false → (found : Option LooseSection)
      → slice_get after.sections put.section ≡ found → IsSomeAnd found (λ held. TableStands held put.section pos lines put.first)
      → (now : LooseSection) × (slice_get after.sections put.section ≡ Some now) × Extends before now
      → LineTableReads (image_of after.symbols laid) after.symbols laid tables.sections directives lines
  by_last before was takes None there table more = absurd table
  by_last before was takes (Some held) there table more =
      table_reads before held was there takes (subst (Extends before) (same_Some more.0 held (sym more.1 ∙ there)) more.2) table

  by_first : (found : Option LooseSection) → slice_get put.first.sections put.section ≡ found → IsSomeAnd found (λ held. takes_zeros_alone held ≡ false)
      → LineTableReads (image_of after.symbols laid) after.symbols laid tables.sections directives lines
  by_first None was takes = absurd takes
  by_first (Some before) was takes =
      let extends = subst (λ (t : Tables). OneExtends put.section put.first.sections t.sections) (sym put.put) (facts.behind put.section pos lines put.first) in
      by_last before was takes (slice_get after.sections put.section) refl put.stands (extends.there before was)

  pub reads : LineTableReads (image_of after.symbols laid) after.symbols laid tables.sections directives lines
  reads = by_first (slice_get put.first.sections put.section) refl put.takes.filled

-- whatever was placed, its line table reads
pub tables_read : TableFacts → LineTablesRead
tables_read facts pos directives lines tables after laid means first ready rows_ready made few is low =
    reads facts pos directives lines tables after laid means ready rows_ready few is low made (facts.found pos lines tables after first ready.within made)
