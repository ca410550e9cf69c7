-- What layout makes of the pieces of a sequence are its bytes.
use Rattle.std.proofs.Common.{◌≡◌, ℕ, ◌+◌, ◌-◌, ◌^◌, ◌%◌, ◌/◌, ◌<◌, ◌≤◌, min, nat_lt, false, if◌then◌else◌, List, [], ◌∷◌, ◌++◌, map, take, drop, length, None, Some, refl, sym, ap, ◌∙◌, subst, arith, append_assoc}
use Rattle.std.specs.Prelude.{All}
use Rattle.std.proofs.lemmas.List.Elements.{All-head, All-tail}
use Rattle.asm_base.specs.declared.places.Place.{Place}
use Rattle.asm_base.specs.declared.places.SectionPlace.{SectionPlace}
use Rattle.item_bytes.specs.Leb128.{leb128_bytes}
use Rattle.leb128.specs.Numbers.{NumbersReadBack}
use Rattle.leb128.specs.Reading.{uleb}
use Rattle.line_rows.specs.declared.rows.LineRow.{LineRow}
use Rattle.line_rows.specs.declared.sections.Distance.{Distance}
use Rattle.line_rows.specs.declared.sections.Gap.{Gap}
use Rattle.line_rows.specs.Machine.{first_row}
use Rattle.line_rows.specs.Places.{PlacedRow, PlacedRows, sequence_of, AreRising, AreWritten, later_of, placed_due}
use Rattle.line_rows.specs.Sections.{first_made, with_rows, filled, gap_count, laid_rows, digits_of}
use Rattle.line_rows.specs.Writing as writing
use Rattle.line_rows.specs.Writing.{registers_of, row_bytes, Advance, IsRow, IsWritten, IsSequence, Later, later_bytes, row_due, sequence_then, word_then}
use Rattle.line_directives.specs.declared.sequences.Sequence.{Sequence}
use Rattle.line_directives.specs.Meanings.{RowAt, with_distances, last_place, last_row}
use Rattle.line_directives.specs.Order.{IsUpTo, RowsRise}
use Rattle.line_table.specs.Sequences.{place_in, distance_in, gap_pieces, sequence_pieces}
use Rattle.table_pieces.specs.Made.{Made, piece_bytes, pieces_bytes, AreMade, IsLeb128}
use Rattle.table_pieces.specs.Pieces as put
use Rattle.table_pieces.specs.Pieces.{Piece, plain, leb128}
use Rattle.line_laws.proofs.GapDigits.{groups_read}
use Rattle.line_laws.proofs.Parts.{zero_words}
use Rattle.line_laws.proofs.RowPlaces.{Span, span_of, open_spans, made_spans, spans_counted, spans_all, last_up, AreAdvances, advances_counted, placed_with, same_due, last_is, rows_laid, rows_rise, rows_written}

-- what is known of rows as bytes, and of rows at places
abbrev pub SectionsAreSequences : Type 0
SectionsAreSequences = (first : LineRow) (rows : List (Distance × LineRow)) (advances : List Advance) (end : Advance) (tail : List ℕ)
    → length advances ≡ gap_count rows
    → filled 0 (with_rows rows (first_made first)).gaps (digits_of advances) (with_rows rows (first_made first)).bytes
    ++ 0x02 ∷ (end.digits ++ 0x00 ∷ 0x01 ∷ 0x01 ∷ tail)
    ≡ row_bytes (registers_of first_row) first ++ 0x01 ∷ later_bytes (registers_of first) (laid_rows rows advances) end tail

pub record RowFacts : Type 0 where
  pub numbers : NumbersReadBack
  pub sections : SectionsAreSequences
  pub written : (address : ℕ) (rows : PlacedRows) → address < 2 ^ 64 → IsRow rows.first → rows.end - rows.start < 2 ^ 64
      → AreRising rows.start rows.others rows.end → AreWritten rows.start rows.others rows.end rows.digits
      → IsSequence (sequence_of address rows)
  pub due : (address at : ℕ) (rows : PlacedRows) → AreRising rows.start rows.others rows.end → row_due at (sequence_of address rows) ≡ placed_due at rows

-- the sequence of a section with these rows
abbrev pub sequence_made : RowAt → List RowAt → Sequence
sequence_made first rows = record {
  start = first.0;
  last = last_place first.0 rows;
  row = last_row first.1 rows;
  rows = with_rows (with_distances first.0 rows) (first_made first.1);
}

module _ (address : SectionPlace → ℕ) (section : ℕ) where
  -- where a place of the section stands
  abbrev pub at_place : Place → ℕ
  at_place place = address (place_in section place)

  -- the second place does not stand before the first
  pub record SpanRises (span : Span) : Type 0 where
    pub rises : at_place span.0 ≤ at_place span.1
    pub low : at_place span.1 < 2 ^ 32

  -- what is made of a distance is read as it
  leb128_written : NumbersReadBack → (here : ℕ) (from to : Place) (made : Made) → IsLeb128 address here (distance_in section from to) made → at_place from ≤ at_place to
      → at_place to < 2 ^ 32
      → IsWritten (record { distance = at_place to - at_place from; digits = piece_bytes (leb128 (distance_in section from to)) made })
  leb128_written numbers here from to made is rises low rest =
      let within = is.span.within in
      let spans = is.span.spans in
      let few = is.within in
      let size = is.size in
      let groups : min made.size 10 ≡ is.level + 1 = omega (arith, few, size) in
      let value : made.value ≡ at_place to - at_place from = omega (arith, within, spans, rises, low) in
      ap (λ (n : ℕ). uleb (leb128_bytes false made.value n ++ rest)) groups
      ∙ groups_read numbers is.level made.value rest within few is.holds
      ∙ ap (λ (n : ℕ). Some (n, rest)) value

  -- the bytes of rows with their gaps filled
  record GapsMade (from : ℕ) (gaps : List Gap) (bytes : List ℕ) (pieces : List Piece) (mades : List Made) : Type 0 where
    advances : List Advance
    are : AreAdvances at_place (map span_of gaps) advances
    left : List Made
    there : ℕ
    rest : AreMade address there pieces left
    all : pieces_bytes (gap_pieces section from gaps bytes pieces) mades ≡ filled from gaps (digits_of advances) bytes ++ pieces_bytes pieces left

  gaps_made : NumbersReadBack → (here from : ℕ) (gaps : List Gap) (bytes : List ℕ) (pieces : List Piece) (mades : List Made)
      → AreMade address here (gap_pieces section from gaps bytes pieces) mades → All SpanRises (map span_of gaps) → GapsMade from gaps bytes pieces mades
  gaps_made numbers here from [] bytes pieces [] made rise = absurd made
  gaps_made numbers here from [] bytes pieces (one ∷ mades) made rise =
      record { advances = []; are = tt; left = mades; there = here + length bytes; rest = made.1; all = refl }
  gaps_made numbers here from (gap ∷ gaps) bytes pieces [] made rise = absurd made
  gaps_made numbers here from (gap ∷ gaps) bytes pieces (one ∷ []) made rise = absurd made.1
  gaps_made numbers here from (gap ∷ gaps) bytes pieces (one ∷ two ∷ mades) made rise =
      let front : List ℕ = take (gap.at - from) bytes in
      let digits : List ℕ = piece_bytes (leb128 (distance_in section gap.from gap.to)) two in
      let span : SpanRises (span_of gap) = All-head SpanRises (span_of gap) (map span_of gaps) rise in
      let more = gaps_made numbers (here + length front + length digits) gap.at gaps (drop (gap.at - from) bytes) pieces mades made.1.1
      (All-tail SpanRises (span_of gap) (map span_of gaps) rise) in
      let behind : List ℕ = filled gap.at gaps (digits_of more.advances) (drop (gap.at - from) bytes) in
      record {
        advances = record { distance = at_place gap.to - at_place gap.from; digits = digits } ∷ more.advances;
        are = (refl, leb128_written numbers (here + length front) gap.from gap.to two made.1.0 span.rises span.low, more.are);
        left = more.left;
        there = more.there;
        rest = more.rest;
        all = ap (λ (bytes : List ℕ). front ++ (digits ++ bytes)) more.all
            ∙ ap (λ (bytes : List ℕ). front ++ bytes) (sym (append_assoc digits behind (pieces_bytes pieces more.left)))
            ∙ sym (append_assoc front (digits ++ behind) (pieces_bytes pieces more.left));
      }

  -- the end of a sequence
  abbrev end_pieces : Place → Place → List Piece
  end_pieces last end = plain (0x02 ∷ []) ∷ leb128 (distance_in section last end) ∷ plain (0x00 ∷ 0x01 ∷ 0x01 ∷ []) ∷ []

  record EndMade (last end : Place) (mades : List Made) : Type 0 where
    digits : List ℕ
    written : IsWritten (record { distance = at_place end - at_place last; digits = digits })
    all : pieces_bytes (end_pieces last end) mades ≡ 0x02 ∷ (digits ++ 0x00 ∷ 0x01 ∷ 0x01 ∷ [])

  end_made : NumbersReadBack → (here : ℕ) (last end : Place) (mades : List Made) → AreMade address here (end_pieces last end) mades → at_place last ≤ at_place end
      → at_place end < 2 ^ 32 → EndMade last end mades
  end_made numbers here last end [] made rises low = absurd made
  end_made numbers here last end (one ∷ []) made rises low = absurd made.1
  end_made numbers here last end (one ∷ two ∷ []) made rises low = absurd made.1.1
  end_made numbers here last end (one ∷ two ∷ three ∷ []) made rises low = record {
    digits = piece_bytes (leb128 (distance_in section last end)) two;
    written = leb128_written numbers (here + 1) last end two made.1.0 rises low;
    all = refl;
  }
  end_made numbers here last end (one ∷ two ∷ three ∷ four ∷ mades) made rises low = absurd made.1.1.1

  -- rows, whose places never fall up to an end, and whose numbers are in their ranges
  pub record AreRows (first : RowAt) (rows : List RowAt) (end : Place) : Type 0 where
    pub rise : RowsRise first.0 rows end
    pub low : at_place end < 2 ^ 32
    pub first_is : IsRow first.1
    pub rows_are : All (λ (row : RowAt). IsRow row.1) rows

  -- these rows at their places, up to the end; how they are written does not matter here
  abbrev pub rows_at : RowAt → List RowAt → Place → PlacedRows
  rows_at first rows end = record {
    start = at_place first.0;
    first = first.1;
    others = map (λ row. record { place = at_place row.0; digits = []; row = row.1 }) rows;
    end = at_place end;
    digits = [];
  }

  -- the bytes are those of a sequence that gives the rows at their places
  pub record AreSequence (first : RowAt) (rows : List RowAt) (end : Place) (bytes : List ℕ) : Type 0 where
    pub written : writing.Sequence
    pub good : IsSequence written
    pub all : bytes ≡ sequence_then written []
    pub due : (at : ℕ) → row_due at written ≡ placed_due at (rows_at first rows end)

  module _ (facts : RowFacts) (beside : (one other : Place) → one.item ≡ other.item → at_place other + one.offset ≡ at_place one + other.offset)
      (rise : (one other : Place) → IsUpTo one other → at_place one ≤ at_place other) where
    module _ (first : RowAt) (rows : List RowAt) (end : Place) (are : AreRows first rows end) where
      abbrev distances : List (Distance × LineRow)
      distances = with_distances first.0 rows

      abbrev last : Place
      last = last_place first.0 rows

      fits : (last place : Place) → IsUpTo last place → IsUpTo place end → SpanRises (last, place)
      fits last place up ends =
          let more = rise place end ends in
          let low = are.low in
          record { rises = rise last place up; low = omega (arith, more, low) }

      -- the bytes of the gaps and of the end make a sequence
      made_sequence : (here value : ℕ) (advances : List Advance) (digits : List ℕ) → value ≡ 0 → AreAdvances at_place (open_spans distances) advances
          → IsWritten (record { distance = at_place end - at_place last; digits = digits })
          → AreSequence first rows end (0x00 ∷ 0x09 ∷ 0x02 ∷ (piece_bytes (put.address (place_in section first.0)) (record { size = here; value = value })
          ++ (filled 0 (with_rows distances (first_made first.1)).gaps (digits_of advances) (with_rows distances (first_made first.1)).bytes
          ++ 0x02 ∷ (digits ++ 0x00 ∷ 0x01 ∷ 0x01 ∷ []))))
      made_sequence here value advances digits zero_there leads is =
          let others : List PlacedRow = placed_with at_place first.0 rows advances in
          let placed : PlacedRows = record { start = at_place first.0; first = first.1; others = others; end = at_place end; digits = digits } in
          let stop : Advance = record { distance = at_place end - at_place last; digits = digits } in
          let count : length advances ≡ gap_count distances = advances_counted at_place (open_spans distances) advances leads ∙ spans_counted distances in
          let rising : AreRising (at_place first.0) others (at_place end) = rows_rise at_place beside rise first.0 rows end advances are.rise in
          let low = are.low in
          let rest : List ℕ = filled 0 (with_rows distances (first_made first.1)).gaps (digits_of advances) (with_rows distances (first_made first.1)).bytes
          ++ 0x02 ∷ (digits ++ 0x00 ∷ 0x01 ∷ 0x01 ∷ []) in
          record {
            written = sequence_of 0 placed;
            good = facts.written 0 placed (omega arith) are.first_is (omega (arith, low)) rising
                (rows_written at_place beside rise facts.numbers first.0 rows end advances digits are.rise (omega (arith, low)) leads are.rows_are is);
            all = ap (λ (bytes : List ℕ). 0x00 ∷ 0x09 ∷ 0x02 ∷ bytes) (zero_words value rest zero_there)
                ∙ ap (λ (bytes : List ℕ). 0x00 ∷ 0x09 ∷ 0x02 ∷ word_then (0 % 2 ^ 32) (word_then (0 / 2 ^ 32) bytes)) (facts.sections first.1 distances advances stop [] count)
                ∙ ap (λ (later : List Later). 0x00 ∷ 0x09 ∷ 0x02 ∷ word_then (0 % 2 ^ 32) (word_then (0 / 2 ^ 32)
                (row_bytes (registers_of first_row) first.1 ++ 0x01 ∷ later_bytes (registers_of first.1) later stop []))) (rows_laid at_place beside first.0 rows advances leads)
                ∙ ap (λ (n : ℕ). sequence_then (record {
                  address = 0;
                  first = first.1;
                  others = later_of (at_place first.0) others;
                  end = record { distance = at_place end - n; digits = digits };
                }) []) (sym (last_is at_place first.0 rows advances));
            due = λ at. facts.due 0 at placed rising
                ∙ ap (λ (row : LineRow). if nat_lt (at_place first.0 + at) (at_place end) then Some row else None) (same_due at_place (at_place first.0 + at) first.1 first.0 rows advances);
          }

      -- what layout makes of the pieces of a sequence are the bytes of one that gives the rows at their places
      pub sequence_bytes : (here : ℕ) (mades : List Made) → AreMade address here (sequence_pieces section end (sequence_made first rows) []) mades
          → AreSequence first rows end (pieces_bytes (sequence_pieces section end (sequence_made first rows) []) mades)
      sequence_bytes here [] made = absurd made
      sequence_bytes here (one ∷ []) made = absurd made.1
      sequence_bytes here (one ∷ two ∷ mades) made =
          let sequence : Sequence = sequence_made first rows in
          let spans : map span_of sequence.rows.gaps ≡ open_spans distances = made_spans distances (first_made first.1) in
          let gaps = gaps_made facts.numbers (here + 3 + length (piece_bytes (put.address (place_in section first.0)) two)) 0 sequence.rows.gaps sequence.rows.bytes (end_pieces last end) mades made.1.1
          (subst (All SpanRises) (sym spans) (spans_all SpanRises end fits first.0 rows are.rise)) in
          let stop = end_made facts.numbers gaps.there last end gaps.left gaps.rest (rise last end (last_up first.0 rows end are.rise)) are.low in
          let all = gaps.all ∙ ap (λ (bytes : List ℕ). filled 0 sequence.rows.gaps (digits_of gaps.advances) sequence.rows.bytes ++ bytes) stop.all in
          subst (λ (bytes : List ℕ). AreSequence first rows end (0x00 ∷ 0x09 ∷ 0x02 ∷ (piece_bytes (put.address (place_in section first.0)) two ++ bytes))) (sym all)
          (made_sequence two.size two.value gaps.advances stop.digits made.1.0
          (subst (λ (spans : List Span). AreAdvances at_place spans gaps.advances) spans gaps.are) stop.written)
