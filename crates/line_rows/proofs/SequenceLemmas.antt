-- Sequences run to their rows, and the row in force is the last one at or before a place.
use Rattle.std.proofs.Common.{◌≡◌, ℕ, zero, suc, ◌+◌, ◌-◌, ◌%◌, ◌/◌, ◌^◌, ◌<◌, ◌≤◌, Bool, true, false, length, List, [], ◌∷◌, ◌++◌, Option, None, Some, nat_lt, nat_le, ◌&&◌, if◌then◌else◌, slice_get, refl, sym, ◌∙◌, ap, arith}
use Rattle.std.specs.Option.{option_map, option_and_then}
use Rattle.leb128.specs.Numbers.{NumbersReadBack}
use Rattle.line_rows.specs.declared.rows.LineRow.{LineRow}
use Rattle.line_rows.specs.declared.rows.LineOp.TheVariants.{Copy, AdvancePc, EndSequence, SetAddress}
use Rattle.line_rows.specs.Machine.{Line, first_row, start, distance_from}
use Rattle.line_rows.specs.Rows.{lines_of, row_at, behind_end, row_in_lines, row_in_program}
use Rattle.line_rows.specs.Header.{program_of, line_at}
use Rattle.line_rows.specs.Writing.{registers_of, row_bytes, word_then, Advance, Later, Sequence, later_bytes, sequence_then, program_bytes, later_lines, sequence_lines, program_lines, IsRow, AreLater, IsSequence, AreSequences, end_place, last_row, row_due}
use Rattle.line_rows.proofs.ReadBack.{copy_reads, advance_reads, end_reads, address_reads}
use Rattle.line_rows.proofs.RunLemmas.{no_rows}
use Rattle.line_rows.proofs.RowLemmas.{Runs, no_bytes, op_runs, machine_at, ready, row_runs}

-- the distance from the first row
distance_is : (first address place : ℕ) → address ≡ first + place → place < 2 ^ 64 → distance_from first address ≡ Some place
distance_is first address place is fits =
    ap (λ b. if b then Some (address - first) else None)
    (let near : (nat_le first address && nat_lt (address - first) (2 ^ 64)) ≡ true = grind (arith, is, fits) in near)
    ∙ ap Some (let same : address - first ≡ place = omega (arith, is) in same)

-- a row is appended
copy_runs : (first address place : ℕ) (row : LineRow) (tail : List ℕ) (lines : List Line) → address ≡ first + place → place < 2 ^ 64
    → Runs tail (ready address (Some first) (registers_of row)) lines → Runs (0x01 ∷ tail) (machine_at address (Some first) row) ((place, Some row) ∷ lines)
copy_runs first address place row tail lines is fits runs =
    op_runs Copy 0x01 [] tail (machine_at address (Some first) row) (ready address (Some first) (registers_of row)) (Some (place, Some row)) lines copy_reads
    (ap (option_map (λ place. (ready address (Some first) (registers_of row), Some (place, Some row)))) (distance_is first address place is fits)) runs

first_runs : (address : ℕ) (row : LineRow) (tail : List ℕ) (lines : List Line)
    → Runs tail (ready address (Some address) (registers_of row)) lines → Runs (0x01 ∷ tail) (machine_at address None row) ((0, Some row) ∷ lines)
first_runs address row tail lines runs =
    op_runs Copy 0x01 [] tail (machine_at address None row) (ready address (Some address) (registers_of row)) (Some (0, Some row)) lines copy_reads
    (ap (option_map (λ place. (ready address (Some address) (registers_of row), Some (place, Some row))))
    (distance_is address address 0 (omega arith) (omega arith))) runs

-- the rows behind one
later_runs : (numbers : NumbersReadBack) (first address place : ℕ) (before : LineRow) (others : List Later) (end : Advance) (tail : List ℕ) (lines : List Line)
    → address ≡ first + place → IsRow before → AreLater place others end → Runs tail start lines
    → Runs (later_bytes (registers_of before) others end tail) (ready address (Some first) (registers_of before)) (later_lines place others end lines)
later_runs numbers first address place before [] end tail lines is row (reads, fits) runs =
    op_runs (AdvancePc end.distance) 0x02 end.digits (0x00 ∷ 0x01 ∷ 0x01 ∷ tail) (ready address (Some first) (registers_of before))
    (ready (address + end.distance) (Some first) (registers_of before)) None ((place + end.distance, None) ∷ lines)
    (advance_reads end.digits end.distance reads) refl
    (op_runs EndSequence 0x00 (0x01 ∷ 0x01 ∷ []) tail (ready (address + end.distance) (Some first) (registers_of before)) start (Some (place + end.distance, None)) lines end_reads
    (ap (option_map (λ place. (start, Some (place, None))))
    (distance_is first (address + end.distance) (place + end.distance) (omega (arith, is)) fits)) runs)
later_runs numbers first address place before (later ∷ others) end tail lines is (file_fits, line_fits, column_fits, isa_fits, discriminator_fits) (reads, fits, row, good) runs =
    let d : ℕ = later.advance.distance in
    let rest : List ℕ = later_bytes (registers_of later.row) others end tail in
    let here : address + d ≡ first + (place + d) = omega (arith, is) in
    let copied : Runs (0x01 ∷ rest) (machine_at (address + d) (Some first) later.row) ((place + d, Some later.row) ∷ later_lines (place + d) others end lines) =
    copy_runs first (address + d) (place + d) later.row rest (later_lines (place + d) others end lines) here fits
    (later_runs numbers first (address + d) (place + d) later.row others end tail lines here row good runs) in
    row_runs numbers address (Some first) (registers_of before) later.row (0x02 ∷ (later.advance.digits ++ 0x01 ∷ rest)) ((place + d, Some later.row) ∷ later_lines (place + d) others end lines) line_fits row
    (op_runs (AdvancePc d) 0x02 later.advance.digits (0x01 ∷ rest) (machine_at address (Some first) later.row) (machine_at (address + d) (Some first) later.row) None
    ((place + d, Some later.row) ∷ later_lines (place + d) others end lines) (advance_reads later.advance.digits d reads) refl copied)

one_fits : 1 < 2 ^ 32
one_fits = omega arith

sequence_then_runs : (numbers : NumbersReadBack) (sequence : Sequence) (tail : List ℕ) (lines : List Line) → IsSequence sequence → Runs tail start lines
    → Runs (sequence_then sequence tail) start (sequence_lines sequence lines)
sequence_then_runs numbers sequence tail lines (address_fits, row, good) runs =
    let a : ℕ = sequence.address in
    let rest : List ℕ = later_bytes (registers_of sequence.first) sequence.others sequence.end tail in
    let due : List Line = sequence_lines sequence lines in
    op_runs (SetAddress a) 0x00 (0x09 ∷ 0x02 ∷ word_then (a % 2 ^ 32) (word_then (a / 2 ^ 32) [])) (row_bytes (registers_of first_row) sequence.first ++ 0x01 ∷ rest)
    start (ready a None (registers_of first_row)) None due (address_reads a address_fits) refl
    (row_runs numbers a None (registers_of first_row) sequence.first (0x01 ∷ rest) due one_fits row
    (first_runs a sequence.first rest (later_lines 0 sequence.others sequence.end lines)
    (later_runs numbers a a 0 sequence.first sequence.others sequence.end tail lines (omega arith) row good runs)))

pub program_runs : (numbers : NumbersReadBack) (sequences : List Sequence) → AreSequences sequences → Runs (program_bytes sequences) start (program_lines sequences)
program_runs numbers [] good = no_bytes start
program_runs numbers (sequence ∷ sequences) (one, good) =
    sequence_then_runs numbers sequence (program_bytes sequences) (program_lines sequences) one (program_runs numbers sequences good)

pub sequences_run : (numbers : NumbersReadBack) (sequences : List Sequence) → AreSequences sequences → lines_of (program_bytes sequences) ≡ Some (program_lines sequences)
sequences_run numbers sequences good = program_runs numbers sequences good (length (program_bytes sequences)) (omega arith)

-- THE ROW AT A PLACE

is_past : (at place : ℕ) → at < place → nat_le place at ≡ false
is_past at place far = grind arith

is_up_to : (at place : ℕ) → place ≤ at → nat_le place at ≡ true
is_up_to at place near = grind arith

is_before : (at place : ℕ) → at < place → nat_lt at place ≡ true
is_before at place far = grind arith

test_up_to : (at place : ℕ) → nat_le place at ≡ true → place ≤ at
test_up_to at place is = grind arith

test_past : (at place : ℕ) → nat_le place at ≡ false → at < place
test_past at place is = grind arith

-- past the place nothing is found anew
past : (at place : ℕ) (found : Option LineRow) (others : List Later) (end : Advance) (tail : List Line) → at < place
    → row_at at found (later_lines place others end tail) ≡ found
past at place found [] end tail far = ap (λ b. if b then found else None) (is_before at (place + end.distance) (omega (arith, far)))
past at place found (later ∷ others) end tail far =
    ap (λ b. row_at at (if b then Some later.row else found) (later_lines (place + later.advance.distance) others end tail))
    (is_past at (place + later.advance.distance) (omega (arith, far)))
    ∙ past at (place + later.advance.distance) found others end tail (omega (arith, far))

end_is_behind : (at place : ℕ) (others : List Later) (end : Advance) → at < place → at < end_place place others end
end_is_behind at place [] end far = omega (arith, far)
end_is_behind at place (later ∷ others) end far = end_is_behind at (place + later.advance.distance) others end (omega (arith, far))

abbrev Found : ℕ → ℕ → LineRow → List Later → Advance → List Line → Type 0
Found at place row others end tail =
    row_at at (Some row) (later_lines place others end tail)
    ≡ (if nat_lt at (end_place place others end) then Some (last_row at place row others) else None)

found_by : (at place : ℕ) (row : LineRow) (later : Later) (others : List Later) (end : Advance) (tail : List Line) (b : Bool)
    → nat_le (place + later.advance.distance) at ≡ b
    → (place + later.advance.distance ≤ at → Found at (place + later.advance.distance) later.row others end tail)
    → Found at place row (later ∷ others) end tail
found_by at place row later others end tail true is below =
    ap (λ b. row_at at (if b then Some later.row else Some row) (later_lines (place + later.advance.distance) others end tail)) is
    ∙ below (test_up_to at (place + later.advance.distance) is)
    ∙ sym (ap (λ b. if nat_lt at (end_place (place + later.advance.distance) others end) then Some (if b then last_row at (place + later.advance.distance) later.row others else row) else None) is)
found_by at place row later others end tail false is below =
    ap (λ b. row_at at (if b then Some later.row else Some row) (later_lines (place + later.advance.distance) others end tail)) is
    ∙ past at (place + later.advance.distance) (Some row) others end tail (test_past at (place + later.advance.distance) is)
    ∙ sym (ap (λ b. if b then Some (if nat_le (place + later.advance.distance) at then last_row at (place + later.advance.distance) later.row others else row) else None)
    (is_before at (end_place (place + later.advance.distance) others end) (end_is_behind at (place + later.advance.distance) others end (test_past at (place + later.advance.distance) is)))
    ∙ ap (λ b. Some (if b then last_row at (place + later.advance.distance) later.row others else row)) is)

found_in : (at place : ℕ) (row : LineRow) (others : List Later) (end : Advance) (tail : List Line) → Found at place row others end tail
found_in at place row [] end tail = refl
found_in at place row (later ∷ others) end tail =
    found_by at place row later others end tail (nat_le (place + later.advance.distance) at) refl
    (λ near. found_in at (place + later.advance.distance) later.row others end tail)

behind_later : (place : ℕ) (others : List Later) (end : Advance) (tail : List Line) → behind_end (later_lines place others end tail) ≡ tail
behind_later place [] end tail = refl
behind_later place (later ∷ others) end tail = behind_later (place + later.advance.distance) others end tail

pub row_in_sequences : (sequences : List Sequence) (seq at : ℕ) → row_in_lines seq at (program_lines sequences) ≡ option_and_then (row_due at) (slice_get sequences seq)
row_in_sequences [] seq at = no_rows seq at
row_in_sequences (sequence ∷ sequences) zero at =
    ap (λ b. row_at at (if b then Some sequence.first else None) (later_lines 0 sequence.others sequence.end (program_lines sequences))) (is_up_to at 0 (omega arith))
    ∙ found_in at 0 sequence.first sequence.others sequence.end (program_lines sequences)
row_in_sequences (sequence ∷ sequences) (suc seq) at =
    ap (row_in_lines seq at) (behind_later 0 sequence.others sequence.end (program_lines sequences)) ∙ row_in_sequences sequences seq at

pub table_row : (numbers : NumbersReadBack) (table : List ℕ) (sequences : List Sequence) (seq at : ℕ) → AreSequences sequences → program_of table ≡ Some (program_bytes sequences)
    → line_at table seq at ≡ option_and_then (row_due at) (slice_get sequences seq)
unfolding row_in_program
table_row numbers table sequences seq at good is =
    ap (option_and_then (λ program. row_in_program program seq at)) is
    ∙ ap (option_and_then (row_in_lines seq at)) (sequences_run numbers sequences good)
    ∙ row_in_sequences sequences seq at
