-- The end behind a sequence.
use Rattle.std.proofs.Common.{◌≡◌, ℕ, ◌+◌, ◌-◌, Bool, true, false, List, [], ◌∷◌, length, take, drop, refl, sym, ap, ◌∙◌, arith, length-append}
use lib.ListN.{take-append-drop}
use Rattle.asm_base.specs.declared.places.Place.{Place}
use Rattle.line_directives.specs.declared.sequences.Sequence.{Sequence}
use Rattle.line_rows.specs.declared.sections.Gap.{Gap}
use Rattle.table_pieces.specs.declared.ends.SectionEnd.{SectionEnd}
use Rattle.table_pieces.specs.Ends.{behind_plain, behind_pieces}
use Rattle.table_pieces.specs.Pieces.{Piece}
use Rattle.line_table.specs.Sequences.{distance_in, gap_pieces, stop_pieces, sequence_pieces}

-- the end behind a run
abbrev run_at : ℕ → ℕ → SectionEnd
run_at items bytes = record { items = items; bytes = bytes; in_run = true }

pub both_parts : {A : Type 0} → (n : ℕ) (xs : List A) → length (take n xs) + length (drop n xs) ≡ length xs
both_parts n xs = sym (length-append (take n xs) (drop n xs)) ∙ ap length (take-append-drop n xs)

same_end : (items other bytes more : ℕ) → items ≡ other → bytes ≡ more → run_at items bytes ≡ run_at other more
same_end items other bytes more one two = ap (λ (n : ℕ). run_at n bytes) one ∙ ap (run_at other) two

-- each gap is an item, and a run behind it
gaps_end : (section from : ℕ) (gaps : List Gap) (bytes : List ℕ) (pieces : List Piece) (end : SectionEnd)
    → behind_pieces (gap_pieces section from gaps bytes pieces) end
    ≡ behind_pieces pieces (run_at ((behind_plain 0 end).items + length gaps + length gaps) (end.bytes + length bytes))
gaps_end section from [] bytes pieces end =
    ap (behind_pieces pieces)
    (same_end (behind_plain 0 end).items ((behind_plain 0 end).items + 0 + 0) (end.bytes + length bytes) (end.bytes + length bytes) (omega arith) refl)
gaps_end section from (gap ∷ gaps) bytes pieces end =
    let first : ℕ = (behind_plain 0 end).items in
    let n : ℕ = gap.at - from in
    let next : SectionEnd = record { items = first + 1; bytes = end.bytes + length (take n bytes); in_run = false } in
    let parts = both_parts n bytes in
    gaps_end section gap.at gaps (drop n bytes) pieces next
    ∙ ap (behind_pieces pieces)
    (same_end ((first + 1) + 1 + length gaps + length gaps) (first + length (gap ∷ gaps) + length (gap ∷ gaps))
    ((end.bytes + length (take n bytes)) + length (drop n bytes)) (end.bytes + length bytes) (omega arith) (omega (arith, parts)))

-- behind a run, a sequence adds two items for each gap and two for its end
runs_end : (section : ℕ) (stop : Place) (sequence : Sequence) (pieces : List Piece) (items bytes : ℕ)
    → behind_pieces (sequence_pieces section stop sequence pieces) (run_at items bytes)
    ≡ behind_pieces pieces (run_at (items + length sequence.rows.gaps + length sequence.rows.gaps + 2) (bytes + length sequence.rows.bytes + 15))
runs_end section stop sequence pieces items bytes =
    let gaps : ℕ = length sequence.rows.gaps in
    let count : ℕ = length sequence.rows.bytes in
    gaps_end section 0 sequence.rows.gaps sequence.rows.bytes (stop_pieces (distance_in section sequence.last stop) pieces) (run_at items (bytes + 3 + 8))
    ∙ ap (behind_pieces pieces)
    (same_end (items + gaps + gaps + 1 + 1) (items + gaps + gaps + 2) (bytes + 3 + 8 + count + 1 + 3) (bytes + count + 15) (omega arith) (omega arith))

pub sequence_ends : (section : ℕ) (stop : Place) (sequence : Sequence) (pieces : List Piece) (end : SectionEnd) → end.in_run ≡ true
    → behind_pieces (sequence_pieces section stop sequence pieces) end
    ≡ behind_pieces pieces (run_at (end.items + length sequence.rows.gaps + length sequence.rows.gaps + 2) (end.bytes + length sequence.rows.bytes + 15))
sequence_ends section stop sequence pieces end run =
    ap (λ (in_run : Bool). behind_pieces (sequence_pieces section stop sequence pieces) (record { items = end.items; bytes = end.bytes; in_run = in_run })) run
    ∙ runs_end section stop sequence pieces end.items end.bytes
