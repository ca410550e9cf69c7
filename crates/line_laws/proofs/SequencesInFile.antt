-- The sequences of a table stand in the file, one behind the other.
use Rattle.std.proofs.Common.{◌≡◌, ℕ, zero, suc, ◌+◌, ◌-◌, ◌^◌, ◌%◌, ◌/◌, ◌≤◌, List, [], ◌∷◌, ◌++◌, map, take, drop, length, Option, None, Some, refl, sym, ap, ◌∙◌, subst, arith, append_assoc, length-append}
use Rattle.std.specs.Prelude.{All, IsSomeAnd, slice_get}
use Rattle.std.proofs.lemmas.List.Elements.{All-head, All-tail}
use Rattle.asm_base.specs.declared.places.Place.{Place}
use Rattle.asm_base.specs.declared.positions.Pos.{Pos}
use Rattle.asm_frags.specs.Writing.{LooseSection}
use Rattle.elf_file.specs.Places.{PieceAt}
use Rattle.elf_object.specs.Image.{image_of}
use Rattle.elf_object.specs.Places.{section_offset}
use Rattle.line_rows.specs.declared.sections.Gap.{Gap}
use Rattle.line_rows.specs.Machine.{first_row}
use Rattle.line_rows.specs.Places.{placed_due}
use Rattle.line_rows.specs.Writing as writing
use Rattle.line_rows.specs.Writing.{registers_of, row_bytes, Advance, Later, IsRow, IsSequence, AreSequences, later_bytes, sequence_then, program_bytes, row_due}
use Rattle.line_directives.specs.declared.sequences.Sequence.{Sequence}
use Rattle.line_directives.specs.Meanings.{RowAt, rows_of, with_distances, last_place}
use Rattle.line_directives.specs.Numbered.{under}
use Rattle.line_directives.specs.Order.{IsUpTo, RowsRise}
use Rattle.line_directives.specs.Taking.{LineDirective}
use Rattle.line_rows.specs.Sections.{first_made}
use Rattle.line_table.specs.Sequences.{place_in, distance_in, end_in, gap_pieces, sequence_pieces, sequences_from}
use Rattle.table_pieces.specs.declared.ends.SectionEnd.{SectionEnd}
use Rattle.table_pieces.specs.Ends.{behind_plain, behind_pieces}
use Rattle.table_pieces.specs.Found.{PiecesStand}
use Rattle.table_pieces.specs.Labels.{PlacesAreLabels}
use Rattle.table_pieces.specs.Made.{pieces_bytes}
use Rattle.table_pieces.specs.Pieces as put
use Rattle.table_pieces.specs.Pieces.{Piece, plain, Tables, pieces_put}
use Rattle.table_pieces.specs.Ready.{IsInSection}
use Rattle.table_pieces.specs.StandingPlaces.{HoldsItems}
use Rattle.piece_laws.specs.HeldDistances.{NamesStay}
use Rattle.piece_laws.specs.LaidTables.{place_address, LaidTable, StandsTo}
use Rattle.piece_laws.specs.PiecesInFile.{IsForward, AllFit}
use Rattle.piece_laws.specs.Pointers.{HoldsAddress}
use Rattle.line_laws.specs.TableReads.{how_many}
use Rattle.line_laws.proofs.Parts.{stands_both, stands_behind}
use Rattle.line_laws.proofs.PieceFacts.{PieceFacts, at_end}
use Rattle.line_laws.proofs.RowPlaces.{Span, span_of, open_spans, made_spans, spans_all, last_up, up_to_end}
use Rattle.line_laws.proofs.SequenceBytes.{RowFacts, sequence_made, AreRows, AreSequence, rows_at, sequence_bytes}
use Rattle.line_laws.proofs.SplitPieces.{stand_both, put_both, behind_both, sequence_split}

-- THE PROGRAM BEHIND A SEQUENCE

later_apart : (before : _) (others : List Later) (end : Advance) (tail : List ℕ) → later_bytes before others end tail ≡ later_bytes before others end [] ++ tail
later_apart before [] end tail = ap (λ (rest : List ℕ). 0x02 ∷ rest) (sym (append_assoc end.digits (0x00 ∷ 0x01 ∷ 0x01 ∷ []) tail))
later_apart before (later ∷ others) end tail =
    let rest : List ℕ = later_bytes (registers_of later.row) others end [] in
    ap (λ (behind : List ℕ). row_bytes before later.row ++ 0x02 ∷ (later.advance.digits ++ 0x01 ∷ behind)) (later_apart (registers_of later.row) others end tail)
    ∙ ap (λ (behind : List ℕ). row_bytes before later.row ++ 0x02 ∷ behind) (sym (append_assoc later.advance.digits (0x01 ∷ rest) tail))
    ∙ sym (append_assoc (row_bytes before later.row) (0x02 ∷ (later.advance.digits ++ 0x01 ∷ rest)) tail)

pub sequence_apart : (sequence : writing.Sequence) (tail : List ℕ) → sequence_then sequence tail ≡ sequence_then sequence [] ++ tail
sequence_apart sequence tail =
    let rest : List ℕ = later_bytes (registers_of sequence.first) sequence.others sequence.end [] in
    let first : List ℕ = row_bytes (registers_of first_row) sequence.first in
    ap (λ (behind : List ℕ). 0x00 ∷ 0x09 ∷ 0x02 ∷ writing.word_then (sequence.address % 2 ^ 32) (writing.word_then (sequence.address / 2 ^ 32) behind))
    (ap (λ (behind : List ℕ). first ++ 0x01 ∷ behind) (later_apart (registers_of sequence.first) sequence.others sequence.end tail)
    ∙ sym (append_assoc first (0x01 ∷ rest) tail))

-- SEQUENCES

module _ (facts : PieceFacts) (row_facts : RowFacts) (t : LaidTable) (pos : Pos) where
  -- rows of a section, up to a place in it
  pub record InSection (section : ℕ) (first : RowAt) (rows : List RowAt) (end : Place) : Type 0 where
    pub rise : RowsRise first.0 rows end
    pub first_is : IsRow first.1
    pub rows_are : All (λ (row : RowAt). IsRow row.1) rows
    pub there : IsInSection t.sections section end

  module _ (section : ℕ) (first : RowAt) (rows : List RowAt) (end : Place) (has : InSection section first rows end) where
    abbrev stands_at : Place → ℕ
    stands_at place = place_address t.laid (place_in section place)

    end_low : stands_at end ≤ 2 ^ 30
    end_low = facts.places.low t section end has.there

    rises : (one other : Place) → IsUpTo one other → stands_at one ≤ stands_at other
    rises one other up = facts.places.rise t.laid section one other up.0 up.1

    beside : (one other : Place) → one.item ≡ other.item → stands_at other + one.offset ≡ stands_at one + other.offset
    beside one other same = let kept = facts.places.there t section end has.there in facts.places.beside t.laid section kept.0 one other kept.1 same

    holds : (place : Place) → IsUpTo place end → HoldsItems t.sections section place.item
    holds place up = let before = up.0 in let all = has.there.items in record { held = has.there.held; there = has.there.there; enough = omega (arith, before, all) }

    are_rows : AreRows (place_address t.laid) section first rows end
    are_rows = let low = end_low in record { rise = has.rise; low = omega (arith, low); first_is = has.first_is; rows_are = has.rows_are }

    abbrev FitsSpan : Span → Type 0
    FitsSpan span = IsForward t.sections t.laid t.number (distance_in section span.0 span.1)

    span_fits : (last place : Place) → IsUpTo last place → IsUpTo place end → FitsSpan (last, place)
    span_fits last place up ends =
        let low = end_low in
        let more = rises place end ends in
        let a = up.0 in
        let b = up.1 in
        let c = ends.0 in
        let d = ends.1 in
        record {
          to = place_in section place;
          from = place_in section last;
          is_it = refl;
          section = refl;
          to_stands = holds place ends;
          from_stands = holds last (omega (arith, a, c), omega (arith, b, d));
          rises = rises last place up;
          low = omega (arith, low, more);
        }

    gaps_fit : (from : ℕ) (gaps : List Gap) (bytes : List ℕ) (pieces : List Piece) → All FitsSpan (map span_of gaps) → AllFit t.sections t.laid t.number pieces
        → AllFit t.sections t.laid t.number (gap_pieces section from gaps bytes pieces)
    gaps_fit from [] bytes pieces all fit = (tt, fit)
    gaps_fit from (gap ∷ gaps) bytes pieces all fit = (
      tt,
      (
        All-head FitsSpan (span_of gap) (map span_of gaps) all,
        gaps_fit gap.at gaps (drop (gap.at - from) bytes) pieces (All-tail FitsSpan (span_of gap) (map span_of gaps) all) fit,
      ),
    )

    abbrev sequence : Sequence
    sequence = sequence_made first rows

    abbrev pieces : List Piece
    pieces = sequence_pieces section end sequence []

    -- the pieces of a sequence are as they are to be
    sequence_fits : AllFit t.sections t.laid t.number pieces
    sequence_fits =
        let last : Place = last_place first.0 rows in
        let up = last_up first.0 rows end has.rise in
        let spans : map span_of sequence.rows.gaps ≡ open_spans (with_distances first.0 rows) = made_spans (with_distances first.0 rows) (first_made first.1) in
        let stop : FitsSpan (last, end) = span_fits last end up (omega arith, omega arith) in (
          tt,
          (
            tt,
            gaps_fit 0 sequence.rows.gaps sequence.rows.bytes
                (plain (0x02 ∷ []) ∷ put.leb128 (distance_in section last end) ∷ plain (0x00 ∷ 0x01 ∷ 0x01 ∷ []) ∷ [])
                (subst (All FitsSpan) (sym spans) (spans_all FitsSpan end span_fits first.0 rows has.rise)) (tt, (stop, (tt, tt))),
          ),
        )

    -- the sequence stands in the file behind an end of the table's section
    pub record SequenceStands (before : SectionEnd) : Type 0 where
      pub code : List ℕ
      pub stands : PieceAt (image_of t.symbols t.laid) (section_offset t.symbols t.laid t.number + at_end t before) code
      pub reach : at_end t (behind_pieces pieces before) ≡ at_end t before + length code
      pub is : AreSequence (place_address t.laid) section first rows end code
      pub start : IsSomeAnd (slice_get t.laid t.number)
          (λ held. HoldsAddress t.symbols t.laid t.number held (at_end t before + 3) (place_in section first.0))

    pub sequence_stands : (tables : Tables) (before : SectionEnd) → StandsTo t.held before → PlacesAreLabels tables.symbols
        → NamesStay (pieces_put t.number pos pieces tables).symbols t.symbols → PiecesStand t.held t.number pos before tables pieces → SequenceStands before
    sequence_stands tables before enough known stays stand =
        let start : List Piece = plain (0x00 ∷ 0x09 ∷ 0x02 ∷ []) ∷ put.address (place_in section first.0) ∷ [] in
        let front : List Piece = plain (0x00 ∷ 0x09 ∷ 0x02 ∷ []) ∷ [] in
        let rest : List Piece = gap_pieces section 0 sequence.rows.gaps sequence.rows.bytes
        (plain (0x02 ∷ []) ∷ put.leb128 (distance_in section (last_place first.0 rows) end) ∷ plain (0x00 ∷ 0x01 ∷ 0x01 ∷ []) ∷ []) in
        let made = facts.file.pieces t tables pos before (plain (0x00 ∷ 0x09 ∷ 0x02 ∷ [])) (put.address (place_in section first.0) ∷ rest) enough known stays sequence_fits stand in
        let two : Tables = pieces_put t.number pos start tables in
        let low = end_low in
        let first_up : IsUpTo first.0 end = up_to_end first.0 rows end has.rise in
        let more = rises first.0 end first_up in
        let held = facts.file.addresses t tables.symbols pos (behind_plain 3 before) (place_in section first.0) known
        (λ symbol at there. stays symbol at (facts.labels.stays two.symbols (pieces_put t.number pos rest two).symbols symbol at (facts.labels.pieces t.number pos rest two) there))
        (facts.file.ends.pieces t tables pos before front enough (stand.0, tt)) (holds first.0 first_up) (omega (arith, low, more)) stand.1.0 in
        let place : at_end t (behind_plain 3 before) ≡ at_end t before + 3 = facts.file.ends.run t pos before (behind_plain 3 before) 3 stand.0.0 refl in
        record {
          code = pieces_bytes pieces made.mades;
          stands = made.stands;
          reach = made.reach;
          is = sequence_bytes (place_address t.laid) section row_facts beside rises first rows end are_rows (at_end t before) made.mades made.are_made;
          start = subst (λ (offset : ℕ). IsSomeAnd (slice_get t.laid t.number)
              (λ held. HoldsAddress t.symbols t.laid t.number held offset (place_in section first.0))) place held;
        }

  -- ALL OF THEM

  module _ (sections : List LooseSection) (directives : List LineDirective) where
    -- the sequence is that of the rows of the section of this number
    pub record IsOf (section : ℕ) (sequence : Sequence) : Type 0 where
      pub first : RowAt
      pub rows : List RowAt
      pub meant : rows_of section directives ≡ first ∷ rows
      pub is : sequence ≡ sequence_made first rows
      pub has : InSection section first rows (end_in section sections)

    abbrev pub AreOf : ℕ → List (Option Sequence) → Type 0
    AreOf section [] = Unit {0}
    AreOf section (None ∷ sequences) = AreOf (section + 1) sequences
    AreOf section (Some sequence ∷ sequences) = IsOf section sequence × AreOf (section + 1) sequences

    -- what is written as the sequence of this index is that of the section of this number, and its address stands behind those before it
    pub record IsFound (section : ℕ) (written : List writing.Sequence) (index before : ℕ) : Type 0 where
      pub one : writing.Sequence
      pub there : slice_get written index ≡ Some one
      pub first : RowAt
      pub rows : List RowAt
      pub meant : rows_of section directives ≡ first ∷ rows
      pub due : (at : ℕ) → row_due at one ≡ placed_due at (rows_at (place_address t.laid) section first rows (end_in section sections))
      pub start : IsSomeAnd (slice_get t.laid t.number)
          (λ held. HoldsAddress t.symbols t.laid t.number held (before + length (program_bytes (take index written)) + 3) (place_in section first.0))

    -- the sequences stand in the file behind an end of the table's section
    pub record SequencesStand (section : ℕ) (sequences : List (Option Sequence)) (before : SectionEnd) : Type 0 where
      pub written : List writing.Sequence
      pub good : AreSequences written
      pub count : length written ≡ how_many sequences
      pub stands : PieceAt (image_of t.symbols t.laid) (section_offset t.symbols t.laid t.number + at_end t before) (program_bytes written)
      pub reach : at_end t (behind_pieces (sequences_from sections section sequences) before) ≡ at_end t before + length (program_bytes written)
      pub each : (index : ℕ) (sequence : Sequence) → under index sequences ≡ Some sequence
          → IsFound (section + index) written (how_many (take index sequences)) (at_end t before)

    none_there : {Goal : Type 0} (sequence : Sequence) → None ≡ Some sequence → Goal
    none_there sequence same = absurd (let none : ⊥ = cc in none)

    -- behind a section without rows
    skipped : (section : ℕ) (sequences : List (Option Sequence)) (before : SectionEnd) → SequencesStand (section + 1) sequences before
        → SequencesStand section (None ∷ sequences) before
    skipped section sequences before rest = record { written = rest.written; good = rest.good; count = rest.count; stands = rest.stands; reach = rest.reach; each = each }
      where
        each : (index : ℕ) (sequence : Sequence) → under index (None ∷ sequences) ≡ Some sequence
            → IsFound (section + index) rest.written (how_many (take index (None ∷ sequences))) (at_end t before)
        each zero sequence same = none_there sequence same
        each (suc index) sequence same =
            subst (λ (n : ℕ). IsFound n rest.written (how_many (take index sequences)) (at_end t before))
            (let on : section + 1 + index ≡ section + suc index = omega arith in on) (rest.each index sequence same)

    -- a sequence before others
    module _ (section : ℕ) (sequence : Sequence) (sequences : List (Option Sequence)) (before middle : SectionEnd) (is : IsOf section sequence)
        (one : SequenceStands section is.first is.rows (end_in section sections) is.has before) (reach : at_end t middle ≡ at_end t before + length one.code)
        (rest : SequencesStand (section + 1) sequences middle) where
      abbrev all : List writing.Sequence
      all = one.is.written ∷ rest.written

      whole : one.code ++ program_bytes rest.written ≡ program_bytes all
      whole = ap (λ (code : List ℕ). code ++ program_bytes rest.written) one.is.all ∙ sym (sequence_apart one.is.written (program_bytes rest.written))

      here : IsFound (section + 0) all 0 (at_end t before)
      here =
          subst (λ (n : ℕ). IsFound n all 0 (at_end t before)) (let same : section ≡ section + 0 = omega arith in same) (record {
            one = one.is.written;
            there = refl;
            first = is.first;
            rows = is.rows;
            meant = is.meant;
            due = one.is.due;
            start = subst (λ (n : ℕ). IsSomeAnd (slice_get t.laid t.number) (λ held. HoldsAddress t.symbols t.laid t.number held n (place_in section is.first.0)))
                (let same : at_end t before + 3 ≡ at_end t before + 0 + 3 = omega arith in same) one.start;
          })

      -- how far the first sequences reach with this one
      further : (index : ℕ) → at_end t middle + length (program_bytes (take index rest.written)) ≡ at_end t before + length (program_bytes (take (suc index) all))
      further index =
          let more : List ℕ = program_bytes (take index rest.written) in
          let long = ap length (sequence_apart one.is.written more) ∙ length-append (sequence_then one.is.written []) more in
          let code = ap length one.is.all in
          omega (arith, reach, long, code)

      later : (number index : ℕ) → IsFound number rest.written index (at_end t middle) → IsFound number all (suc index) (at_end t before)
      later number index found = record {
        one = found.one;
        there = found.there;
        first = found.first;
        rows = found.rows;
        meant = found.meant;
        due = found.due;
        start = subst (λ (n : ℕ). IsSomeAnd (slice_get t.laid t.number) (λ held. HoldsAddress t.symbols t.laid t.number held (n + 3) (place_in number found.first.0)))
            (further index) found.start;
      }

      each : (index : ℕ) (other : Sequence) → under index (Some sequence ∷ sequences) ≡ Some other
          → IsFound (section + index) all (how_many (take index (Some sequence ∷ sequences))) (at_end t before)
      each zero other same = here
      each (suc index) other same =
          let found = rest.each index other same in
          let number = how_many (take index sequences) in
          subst (λ (n : ℕ). IsFound n all (number + 1) (at_end t before)) (let on : section + 1 + index ≡ section + suc index = omega arith in on)
          (subst (λ (n : ℕ). IsFound (section + 1 + index) all n (at_end t before)) (let on : suc number ≡ number + 1 = omega arith in on)
          (later (section + 1 + index) number found))

      both_stand : PieceAt (image_of t.symbols t.laid) (section_offset t.symbols t.laid t.number + at_end t before) (program_bytes all)
      both_stand =
          let base : ℕ = section_offset t.symbols t.laid t.number in
          let place : base + at_end t middle ≡ base + at_end t before + length one.code = omega (arith, reach) in
          subst (PieceAt (image_of t.symbols t.laid) (base + at_end t before)) whole
          (stands_both (image_of t.symbols t.laid) one.code (program_bytes rest.written) (base + at_end t before) one.stands
          (subst (λ (at : ℕ). PieceAt (image_of t.symbols t.laid) at (program_bytes rest.written)) place rest.stands))

      both_reach : at_end t (behind_pieces (sequences_from sections (section + 1) sequences) middle) ≡ at_end t before + length (program_bytes all)
      both_reach =
          let far = rest.reach in
          let long = sym (ap length whole) ∙ length-append one.code (program_bytes rest.written) in
          omega (arith, reach, far, long)

    module _ (section : ℕ) (sequence : Sequence) (sequences : List (Option Sequence)) (tables : Tables) (before : SectionEnd) (is : IsOf section sequence) where
      abbrev first_pieces : List Piece
      first_pieces = sequence_pieces section (end_in section sections) (sequence_made is.first is.rows) []

      abbrev others : List Piece
      others = sequences_from sections (section + 1) sequences

      parted : sequences_from sections section (Some sequence ∷ sequences) ≡ first_pieces ++ others
      parted =
          sequence_split section (end_in section sections) sequence others
          ∙ ap (λ (made : Sequence). sequence_pieces section (end_in section sections) made [] ++ others) is.is

      abbrev middle : SectionEnd
      middle = behind_pieces first_pieces before

      abbrev between : Tables
      between = pieces_put t.number pos first_pieces tables

      joined : SequenceStands section is.first is.rows (end_in section sections) is.has before → SequencesStand (section + 1) sequences middle
          → SequencesStand section (Some sequence ∷ sequences) before
      joined one rest = record {
        written = one.is.written ∷ rest.written;
        good = (one.is.good, rest.good);
        count = let count = rest.count in omega (arith, count);
        stands = both_stand section sequence sequences before middle is one one.reach rest;
        reach = ap (at_end t) (ap (λ (pieces : List Piece). behind_pieces pieces before) parted ∙ behind_both before first_pieces others)
            ∙ both_reach section sequence sequences before middle is one one.reach rest;
        each = each section sequence sequences before middle is one one.reach rest;
      }

    -- the sequences of sections stand in the file, one behind the other
    pub sequences_stand : (section : ℕ) (sequences : List (Option Sequence)) (tables : Tables) (before : SectionEnd) → AreOf section sequences → StandsTo t.held before
        → PlacesAreLabels tables.symbols → NamesStay (pieces_put t.number pos (sequences_from sections section sequences) tables).symbols t.symbols
        → PiecesStand t.held t.number pos before tables (sequences_from sections section sequences)
        → PieceAt (image_of t.symbols t.laid) (section_offset t.symbols t.laid t.number + at_end t before) [] → SequencesStand section sequences before
    sequences_stand section [] tables before are enough known stays stand here = record {
      written = [];
      good = tt;
      count = refl;
      stands = here;
      reach = omega arith;
      each = λ index sequence same. none_there sequence same;
    }
    sequences_stand section (None ∷ sequences) tables before are enough known stays stand here =
        skipped section sequences before (sequences_stand (section + 1) sequences tables before are enough known stays stand here)
    sequences_stand section (Some sequence ∷ sequences) tables before are enough known stays stand here =
        let is = are.0 in
        let code = first_pieces section sequence sequences tables before is in
        let rest = others section sequence sequences tables before is in
        let part = parted section sequence sequences tables before is in
        let end = middle section sequence sequences tables before is in
        let next = between section sequence sequences tables before is in
        let both = stand_both t.held t.number pos before tables code rest (subst (PiecesStand t.held t.number pos before tables) part stand) in
        let last : Tables = pieces_put t.number pos rest next in
        let put_is : pieces_put t.number pos (sequences_from sections section (Some sequence ∷ sequences)) tables ≡ last =
        ap (λ (pieces : List Piece). pieces_put t.number pos pieces tables) part ∙ put_both t.number pos tables code rest in
        let keeps : NamesStay last.symbols t.symbols = subst (λ (all : Tables). NamesStay all.symbols t.symbols) put_is stays in
        let one = sequence_stands section is.first is.rows (end_in section sections) is.has tables before enough known
        (λ symbol at there. keeps symbol at (facts.labels.stays next.symbols last.symbols symbol at (facts.labels.pieces t.number pos rest next) there)) both.0 in
        let base : ℕ = section_offset t.symbols t.laid t.number in
        let reach = one.reach in
        let place : base + at_end t before + length one.code ≡ base + at_end t end = omega (arith, reach) in
        let there = subst (λ (at : ℕ). PieceAt (image_of t.symbols t.laid) at []) place
        (stands_behind (image_of t.symbols t.laid) one.code (base + at_end t before) one.stands) in
        joined section sequence sequences tables before is one
        (sequences_stand (section + 1) sequences next end are.1 (facts.file.ends.pieces t tables pos before code enough both.0)
        (facts.labels.known tables.symbols next.symbols known (facts.labels.pieces t.number pos code tables)) keeps both.1 there)
