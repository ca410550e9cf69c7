-- The labels that a table brings are no more than its bytes.
use Rattle.std.proofs.Common.{◌≡◌, ℕ, suc, ◌+◌, ◌-◌, ◌*◌, ◌≤◌, List, [], ◌∷◌, length, drop, Option, None, Some, Ok, refl, ap, arith}
use Rattle.std.specs.Prelude.{IsSomeAnd}
use Rattle.std.specs.List.{slice_get}
use Rattle.std.specs.Option.{option_map_or}
use Rattle.asm_base.specs.declared.places.Place.{Place}
use Rattle.asm_base.specs.declared.positions.Pos.{Pos}
use Rattle.asm_frags.specs.Writing.{LooseSection}
use Rattle.line_directives.specs.declared.sequences.Sequence.{Sequence}
use Rattle.line_directives.specs.Numbered.{under}
use Rattle.line_directives.specs.Taking.{LineTable, LineDirective, table_of}
use Rattle.line_rows.specs.declared.sections.Gap.{Gap}
use Rattle.line_rows.specs.Sections.{first_made}
use Rattle.table_pieces.specs.Counts.{labels_of, bytes_of, PiecesAreCounted}
use Rattle.table_pieces.specs.declared.ends.SectionEnd.{SectionEnd}
use Rattle.table_pieces.specs.Ends.{behind_pieces}
use Rattle.table_pieces.specs.Pieces.{Piece, Tables}
use Rattle.line_table.specs.Counts.{bytes_at, LabelsAreFew}
use Rattle.line_table.specs.FoundTables.{TableStands, IsPlaced}
use Rattle.line_table.specs.Placing.{nothing_put, unit_pieces}
use Rattle.line_table.specs.Sequences.{distance_in, end_in, gap_pieces, stop_pieces, sequence_pieces, sequences_from}
use Rattle.line_table.proofs.EndLemmas.{both_parts}
use Rattle.line_table.proofs.RowPlaces.{Meaning, AreFew, of_sequences, gaps_are_few}
use Rattle.line_table.proofs.TableLemmas.{first_symbols}

gap_labels : (section from : ℕ) (gaps : List Gap) (bytes : List ℕ) (pieces : List Piece)
    → labels_of (gap_pieces section from gaps bytes pieces) ≡ 2 * length gaps + labels_of pieces
gap_labels section from [] bytes pieces = refl
gap_labels section from (gap ∷ gaps) bytes pieces =
    let later = gap_labels section gap.at gaps (drop (gap.at - from) bytes) pieces in
    omega (arith, later)

gap_bytes : (section from : ℕ) (gaps : List Gap) (bytes : List ℕ) (pieces : List Piece)
    → bytes_of (gap_pieces section from gaps bytes pieces) ≡ length bytes + bytes_of pieces
gap_bytes section from [] bytes pieces = refl
gap_bytes section from (gap ∷ gaps) bytes pieces =
    let later = gap_bytes section gap.at gaps (drop (gap.at - from) bytes) pieces in
    let parts = both_parts (gap.at - from) bytes in
    omega (arith, later, parts)

sequence_few : (section : ℕ) (end : Place) (sequence : Sequence) (pieces : List Piece) → AreFew sequence.rows → labels_of pieces ≤ bytes_of pieces
    → labels_of (sequence_pieces section end sequence pieces) ≤ bytes_of (sequence_pieces section end sequence pieces)
sequence_few section end sequence pieces few rest =
    let stop : List Piece = stop_pieces (distance_in section sequence.last end) pieces in
    let labels = gap_labels section 0 sequence.rows.gaps sequence.rows.bytes stop in
    let bytes = gap_bytes section 0 sequence.rows.gaps sequence.rows.bytes stop in
    omega (arith, few, rest, labels, bytes)

sequences_few : (sections : List LooseSection) (number : ℕ) (sequences : List (Option Sequence))
    → ((section : ℕ) (sequence : Sequence) → under section sequences ≡ Some sequence → AreFew sequence.rows)
    → labels_of (sequences_from sections number sequences) ≤ bytes_of (sequences_from sections number sequences)
sequences_few sections number [] few = omega arith
sequences_few sections number (None ∷ sequences) few = sequences_few sections (number + 1) sequences (λ section sequence is. few (suc section) sequence is)
sequences_few sections number (Some sequence ∷ sequences) few =
    sequence_few number (end_in number sections) sequence (sequences_from sections (number + 1) sequences) (few 0 sequence refl)
    (sequences_few sections (number + 1) sequences (λ section sequence is. few (suc section) sequence is))

module _ (counted : PiecesAreCounted) (meaning : Meaning) where
  pieces_few : (directives : List LineDirective) (lines : LineTable) (section : ℕ) (sections : List LooseSection) → table_of directives ≡ Ok lines
      → labels_of (unit_pieces section sections lines) ≤ bytes_of (unit_pieces section sections lines)
  pieces_few directives lines section sections is =
      let rest : labels_of (sequences_from sections 0 lines.sequences) ≤ bytes_of (sequences_from sections 0 lines.sequences) =
      sequences_few sections 0 lines.sequences
      (λ number sequence there. of_sequences meaning (λ sequence. AreFew sequence.rows) directives lines number sequence is
      (λ row rows all. gaps_are_few row.0 rows (first_made row.1) (omega arith)) there) in
      omega (arith, rest)

  counted_by : (found : Option LooseSection) (end : SectionEnd) (section : ℕ) (pos : Pos) (lines : LineTable) (first : Tables) (count : ℕ)
      → end ≡ behind_pieces (unit_pieces section first.sections lines) nothing_put → count ≤ end.bytes
      → IsSomeAnd found (λ held. TableStands held section pos lines first) → count ≤ option_map_or (λ held. length held.bytes) found 0
  counted_by None end section pos lines first count is few stands = absurd stands
  counted_by (Some held) end section pos lines first count is few stands =
      let bytes = stands.ends.bytes in
      let same = ap (λ (end : SectionEnd). end.bytes) is in
      omega (arith, few, bytes, same)

  symbols_few : (directives : List LineDirective) (lines : LineTable) (tables after : Tables) (pos : Pos) → table_of directives ≡ Ok lines
      → (put : IsPlaced pos lines tables after)
      → length after.symbols.symbols ≤ length tables.symbols.symbols + bytes_at after.sections put.section
  symbols_few directives lines tables after pos is put =
      let pieces : List Piece = unit_pieces put.section put.first.sections lines in
      let few : labels_of pieces ≤ bytes_of pieces = pieces_few directives lines put.section put.first.sections is in
      let labels = counted.labels put.section pos pieces put.first in
      let ends = counted.bytes pieces nothing_put in
      let bytes : labels_of pieces ≤ bytes_at after.sections put.section =
      counted_by (slice_get after.sections put.section) (behind_pieces pieces nothing_put) put.section pos lines put.first (labels_of pieces) refl (omega (arith, few, ends)) put.stands in
      let symbols = ap (λ (t : Tables). length t.symbols.symbols) put.put in
      let same = ap (λ map. length map.symbols) (first_symbols put.section tables put.first put.begins) in
      omega (arith, labels, bytes, symbols, same)

  pub labels_are_few : LabelsAreFew
  labels_are_few = record { pieces = pieces_few; symbols = symbols_few }
