-- The places of the rows of a section are those of the rows that the directives mean there.
use Rattle.std.proofs.Common.{◌≡◌, ℕ, ◌-◌, ◌+◌, ◌*◌, ◌≤◌, Bool, true, false, ◌&&◌, nat_le, ◌==◌, if◌then◌else◌, List, [], ◌∷◌, ◌++◌, length, None, Some, Ok, refl, sym, ap, subst, ◌∙◌, arith, length-append}
use Rattle.std.specs.Prelude.{All}
use Rattle.std.proofs.lemmas.List.Elements.{All-nil, All-cons, All-head, All-tail, All-append}
use Rattle.std.proofs.lemmas.Option.{same_Some}
use Rattle.asm_base.specs.declared.places.Place.{Place}
use Rattle.line_rows.specs.declared.rows.LineRow.{LineRow}
use Rattle.line_rows.specs.declared.sections.Distance.TheVariants.{Known, Between}
use Rattle.line_rows.specs.declared.sections.Gap.{Gap}
use Rattle.line_rows.specs.Sections.{Made, first_made, with_row, with_rows}
use Rattle.line_rows.specs.Writing.{row_bytes, known_row_bytes}
use Rattle.line_directives.specs.declared.sequences.Sequence.{Sequence}
use Rattle.line_directives.specs.Meanings.{RowAt, rows_of, rows_onto, with_distances, last_place, last_row, RowsAreMeant, RowsAreMade}
use Rattle.line_directives.specs.Numbered.{under}
use Rattle.line_directives.specs.Sequences.{distance_to, with_row_at}
use Rattle.line_directives.specs.Taking.{LineTable, LineDirective, table_of}

-- what is known of directives
pub record Meaning : Type 0 where
  pub meant : RowsAreMeant
  pub made : RowsAreMade

-- the rows of a section as they are made, of which the first one is this
abbrev pub sequence_of : RowAt → List RowAt → Sequence
sequence_of row rows = record {
  start = row.0;
  last = last_place row.0 rows;
  row = last_row row.1 rows;
  rows = with_rows (with_distances row.0 rows) (first_made row.1);
}

-- what holds of all rows of a section as they are made holds of those that the table has
pub of_sequences : Meaning → (P : Sequence → Type 0) (directives : List LineDirective) (lines : LineTable) (section : ℕ) (sequence : Sequence) → table_of directives ≡ Ok lines
    → ((row : RowAt) (rows : List RowAt) → rows_of section directives ≡ row ∷ rows → P (sequence_of row rows)) → under section lines.sequences ≡ Some sequence → P sequence
of_sequences meaning P directives lines section sequence is each there = by (rows_of section directives) refl
  where
    by : (rows : List RowAt) → rows_of section directives ≡ rows → P sequence
    by [] all =
        let none : None ≡ Some sequence = sym (meaning.meant directives lines section is ∙ ap (rows_onto None) all) ∙ there in
        absurd (let none : ⊥ = cc in none)
    by (row ∷ rows) all =
        let made : Some (sequence_of row rows) ≡ Some sequence =
        sym (meaning.made (with_row_at row.0 row.1 None) rows) ∙ sym (meaning.meant directives lines section is ∙ ap (rows_onto None) all) ∙ there in
        subst P (same_Some (sequence_of row rows) sequence made) (each row rows all)

module _ (P : Place → Type 0) where
  -- both places of a gap are such
  abbrev pub OfGap : Gap → Type 0
  OfGap gap = P gap.from × P gap.to

  abbrev OfRow : RowAt → Type 0
  OfRow row = P row.0

  pub last_is : (place : Place) (rows : List RowAt) → P place → All OfRow rows → P (last_place place rows)
  last_is place [] own all = own
  last_is place (row ∷ rows) own all = last_is row.0 rows (All-head OfRow row rows all) (All-tail OfRow row rows all)

  gaps_by : (near : Bool) (last place : Place) (row : LineRow) (made : Made) → P last → P place → All OfGap made.gaps
      → All OfGap (with_row (if near then Known (place.offset - last.offset) else Between last place) row made).gaps
  gaps_by true last place row made one other all = all
  gaps_by false last place row made one other all =
      let gap : Gap = record { at = length made.bytes + length (row_bytes made.registers row) + 1; from = last; to = place } in
      All-append OfGap made.gaps (gap ∷ []) all (All-cons OfGap gap [] (one, other) (All-nil OfGap))

  pub gaps_are : (last : Place) (rows : List RowAt) (made : Made) → P last → All OfRow rows → All OfGap made.gaps
      → All OfGap (with_rows (with_distances last rows) made).gaps
  gaps_are last [] made own all gaps = gaps
  gaps_are last (row ∷ rows) made own all gaps =
      let next : P row.0 = All-head OfRow row rows all in
      gaps_are row.0 rows (with_row (distance_to last row.0) row.1 made) next (All-tail OfRow row rows all)
      (gaps_by ((last.item == row.0.item) && nat_le last.offset row.0.offset) last row.0 row.1 made own next gaps)

-- there are at least twice as many bytes as gaps
abbrev pub AreFew : Made → Type 0
AreFew made = 2 * length made.gaps ≤ length made.bytes

few_by : (near : Bool) (last place : Place) (row : LineRow) (made : Made) → AreFew made
    → AreFew (with_row (if near then Known (place.offset - last.offset) else Between last place) row made)
few_by true last place row made few =
    let long = length-append made.bytes (known_row_bytes made.registers row (place.offset - last.offset)) in
    omega (arith, few, long)
few_by false last place row made few =
    let gap : Gap = record { at = length made.bytes + length (row_bytes made.registers row) + 1; from = last; to = place } in
    let gaps : length (made.gaps ++ gap ∷ []) ≡ length made.gaps + 1 = length-append made.gaps (gap ∷ []) in
    let more : length (row_bytes made.registers row ++ 0x02 ∷ 0x01 ∷ []) ≡ length (row_bytes made.registers row) + 2 =
    length-append (row_bytes made.registers row) (0x02 ∷ 0x01 ∷ []) in
    let long = length-append made.bytes (row_bytes made.registers row ++ 0x02 ∷ 0x01 ∷ []) in
    omega (arith, few, gaps, more, long)

pub gaps_are_few : (last : Place) (rows : List RowAt) (made : Made) → AreFew made → AreFew (with_rows (with_distances last rows) made)
gaps_are_few last [] made few = few
gaps_are_few last (row ∷ rows) made few =
    gaps_are_few row.0 rows (with_row (distance_to last row.0) row.1 made)
    (few_by ((last.item == row.0.item) && nat_le last.offset row.0.offset) last row.0 row.1 made few)
