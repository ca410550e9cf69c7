-- The bytes of rows run to the rows.
use Rattle.std.proofs.Common.{◌≡◌, ℕ, zero, suc, ◌+◌, ◌^◌, ◌<◌, ◌≤◌, pos, ◌+ℤ◌, ◌-ℤ◌, neg_ℤ, ◌≤ℤ◌, ◌<ℤ◌, Bool, true, false, not, length, List, [], ◌∷◌, ◌++◌, Option, None, Some, ◌==◌, if◌then◌else◌, refl, sym, ◌∙◌, ap, subst, arith}
use Rattle.std.proofs.lemmas.List.{append_assoc, length-append}
use Rattle.std.specs.Option.{option_map, option_and_then}
use Rattle.line_rows.specs.declared.rows.LineRow.{LineRow}
use Rattle.line_rows.specs.declared.rows.Registers.{Registers}
use Rattle.line_rows.specs.declared.rows.LineOp.{LineOp}
use Rattle.line_rows.specs.declared.rows.LineOp.TheVariants.{AdvanceLine, SetFile, SetColumn, NegateStmt, SetBasicBlock, SetPrologueEnd, SetEpilogueBegin, SetIsa, SetDiscriminator}
use Rattle.line_rows.specs.declared.machine.Machine.{Machine}
use Rattle.leb128.specs.Digits.{uleb_bytes, sleb_bytes}
use Rattle.leb128.specs.Numbers.{IsSigned64, NumbersReadBack}
use Rattle.line_rows.specs.Ops.{decoded}
use Rattle.line_rows.specs.Machine.{Line, register, register_at, line_after, with_row, step}
use Rattle.line_rows.specs.Rows.{before_lines, lines_from}
use Rattle.line_rows.specs.Writing.{discriminator_bytes, unless, differs, row_bytes, IsRow}
use Rattle.line_rows.proofs.Comparisons.{is_below}
use Rattle.line_rows.proofs.ReadBack.{IsCode, line_reads, file_reads, column_reads, negate_reads, block_reads, prologue_reads, epilogue_reads, isa_reads, discriminator_reads, short_of}

-- the bytes append these rows, from a machine on
abbrev pub Runs : List ℕ → Machine → List Line → Type 0
Runs bytes machine lines = (most : ℕ) → length bytes ≤ most → option_and_then (lines_from machine) (decoded most bytes) ≡ Some lines

pub no_bytes : (machine : Machine) → Runs [] machine []
no_bytes machine zero fits = refl
no_bytes machine (suc most) fits = refl

-- an operation, and what follows it
ops_on : (op : LineOp) (old new : Machine) (line : Option Line) (lines : List Line) (due : Option (List LineOp)) → step op old ≡ Some (new, line)
    → option_and_then (lines_from new) due ≡ Some lines
    → option_and_then (lines_from old) (option_map (λ ops. op ∷ ops) due) ≡ Some (before_lines line lines)
ops_on op old new line lines None steps runs = absurd (let none : ⊥ = cc in none)
ops_on op old new line lines (Some ops) steps runs =
    ap (option_and_then (λ done. option_map (before_lines done.1) (lines_from done.0 ops))) steps ∙ ap (option_map (before_lines line)) runs

pub op_runs : (op : LineOp) (code : ℕ) (operands bytes : List ℕ) (old new : Machine) (line : Option Line) (lines : List Line)
    → IsCode op code operands → step op old ≡ Some (new, line) → Runs bytes new lines → Runs (code ∷ (operands ++ bytes)) old (before_lines line lines)
op_runs op code operands bytes old new line lines reads steps runs zero fits = absurd (let none : ⊥ = omega arith in none)
op_runs op code operands bytes old new line lines reads steps runs (suc most) fits =
    ap (λ read. option_and_then (lines_from old) (option_and_then (λ read. option_map (λ ops. read.0 ∷ ops) (decoded most read.1)) read)) (reads bytes)
    ∙ ops_on op old new line lines (decoded most bytes) steps
    (runs most (let long : length (operands ++ bytes) ≡ length operands + length bytes = length-append operands bytes in omega (arith, long, fits)))

-- a part of a row: where it's left out the machine is as it would be
part_runs : (same : Bool) (op : LineOp) (code : ℕ) (operands bytes : List ℕ) (old new : Machine) (lines : List Line) → IsCode op code operands
    → (same ≡ true → old ≡ new) → (same ≡ false → step op old ≡ Some (new, None)) → Runs bytes new lines
    → Runs (unless same (code ∷ operands) ++ bytes) old lines
part_runs true op code operands bytes old new lines reads stays steps runs = subst (λ machine. Runs bytes machine lines) (sym (stays refl)) runs
part_runs false op code operands bytes old new lines reads stays steps runs = op_runs op code operands bytes old new None lines reads (steps refl) runs

-- the registers of a row
abbrev pub row_of : Registers → ℕ → Bool → Bool → Bool → LineRow
row_of registers discriminator basic_block prologue_end epilogue_begin = record {
  file = registers.file;
  line = registers.line;
  column = registers.column;
  is_stmt = registers.is_stmt;
  isa = registers.isa;
  discriminator = discriminator;
  basic_block = basic_block;
  prologue_end = prologue_end;
  epilogue_begin = epilogue_begin;
}

abbrev pub machine_at : ℕ → Option ℕ → LineRow → Machine
machine_at address first row = record { address = address; first = first; row = row }

-- the machine behind a row
abbrev pub ready : ℕ → Option ℕ → Registers → Machine
ready address first registers = machine_at address first (row_of registers 0 false false false)

equal : (a b : ℕ) → (a == b) ≡ true → a ≡ b
equal a b is = grind arith

register_is : (value : ℕ) → value < 2 ^ 32 → register value ≡ Some value
register_is value fits = ap (λ b. if b then Some value else None) (is_below value (2 ^ 32) fits)

line_is : (before now : ℕ) → now < 2 ^ 32 → line_after before (pos now -ℤ pos before) ≡ Some now
line_is before now fits =
    ap register_at (let same : pos before +ℤ (pos now -ℤ pos before) ≡ pos now = grind arith in same) ∙ register_is now fits

fits_64 : (value : ℕ) → value < 2 ^ 32 → value < 2 ^ 64
fits_64 value fits = omega (arith, fits)

file_part : (numbers : NumbersReadBack) (machine : Machine) (value : ℕ) (bytes : List ℕ) (lines : List Line) → value < 2 ^ 32
    → Runs bytes (record machine { row = record machine.row { file = value } }) lines
    → Runs (unless (machine.row.file == value) (0x04 ∷ uleb_bytes value) ++ bytes) machine lines
file_part numbers machine value bytes lines fits runs =
    part_runs (machine.row.file == value) (SetFile value) 0x04 (uleb_bytes value) bytes machine (record machine { row = record machine.row { file = value } }) lines
    (file_reads numbers value (fits_64 value fits)) (λ same. ap (λ n. record machine { row = record machine.row { file = n } }) (equal machine.row.file value same))
    (λ other. ap (option_map (λ value. with_row machine (record machine.row { file = value }))) (register_is value fits)) runs

column_part : (numbers : NumbersReadBack) (machine : Machine) (value : ℕ) (bytes : List ℕ) (lines : List Line) → value < 2 ^ 32
    → Runs bytes (record machine { row = record machine.row { column = value } }) lines
    → Runs (unless (machine.row.column == value) (0x05 ∷ uleb_bytes value) ++ bytes) machine lines
column_part numbers machine value bytes lines fits runs =
    part_runs (machine.row.column == value) (SetColumn value) 0x05 (uleb_bytes value) bytes machine (record machine { row = record machine.row { column = value } }) lines
    (column_reads numbers value (fits_64 value fits)) (λ same. ap (λ n. record machine { row = record machine.row { column = n } }) (equal machine.row.column value same))
    (λ other. ap (option_map (λ value. with_row machine (record machine.row { column = value }))) (register_is value fits)) runs

isa_part : (numbers : NumbersReadBack) (machine : Machine) (value : ℕ) (bytes : List ℕ) (lines : List Line) → value < 2 ^ 32
    → Runs bytes (record machine { row = record machine.row { isa = value } }) lines
    → Runs (unless (machine.row.isa == value) (0x0c ∷ uleb_bytes value) ++ bytes) machine lines
isa_part numbers machine value bytes lines fits runs =
    part_runs (machine.row.isa == value) (SetIsa value) 0x0c (uleb_bytes value) bytes machine (record machine { row = record machine.row { isa = value } }) lines
    (isa_reads numbers value (fits_64 value fits)) (λ same. ap (λ n. record machine { row = record machine.row { isa = n } }) (equal machine.row.isa value same))
    (λ other. ap (option_map (λ value. with_row machine (record machine.row { isa = value }))) (register_is value fits)) runs

discriminator_part : (numbers : NumbersReadBack) (machine : Machine) (value : ℕ) (bytes : List ℕ) (lines : List Line) → machine.row.discriminator ≡ 0 → value < 2 ^ 32
    → Runs bytes (record machine { row = record machine.row { discriminator = value } }) lines
    → Runs (unless (value == 0) (discriminator_bytes value) ++ bytes) machine lines
discriminator_part numbers machine value bytes lines none fits runs =
    part_runs (value == 0) (SetDiscriminator value) 0x00 ((length (uleb_bytes value) + 1) ∷ 0x04 ∷ uleb_bytes value) bytes machine (record machine { row = record machine.row { discriminator = value } }) lines
    (discriminator_reads numbers value (fits_64 value fits))
    (λ same. ap (λ n. record machine { row = record machine.row { discriminator = n } }) (none ∙ sym (equal value 0 same)))
    (λ other. ap (option_map (λ value. with_row machine (record machine.row { discriminator = value }))) (register_is value fits)) runs

line_part : (numbers : NumbersReadBack) (machine : Machine) (value : ℕ) (bytes : List ℕ) (lines : List Line) → machine.row.line < 2 ^ 32 → value < 2 ^ 32
    → Runs bytes (record machine { row = record machine.row { line = value } }) lines
    → Runs (unless (machine.row.line == value) (0x03 ∷ sleb_bytes (pos value -ℤ pos machine.row.line)) ++ bytes) machine lines
line_part numbers machine value bytes lines small fits runs =
    part_runs (machine.row.line == value) (AdvanceLine (pos value -ℤ pos machine.row.line)) 0x03 (sleb_bytes (pos value -ℤ pos machine.row.line)) bytes machine
    (record machine { row = record machine.row { line = value } }) lines
    (line_reads numbers (pos value -ℤ pos machine.row.line) (step_is_short machine.row.line value small fits))
    (λ same. ap (λ n. record machine { row = record machine.row { line = n } }) (equal machine.row.line value same))
    (λ other. ap (option_map (λ value. with_row machine (record machine.row { line = value }))) (line_is machine.row.line value fits)) runs
  where
    step_is_short : (before now : ℕ) → before < 2 ^ 32 → now < 2 ^ 32 → IsSigned64 (pos now -ℤ pos before)
    step_is_short before now small fits =
        short_of (pos now -ℤ pos before) (let low : neg_ℤ (pos (2 ^ 63)) ≤ℤ (pos now -ℤ pos before) = grind arith in low)
        (let high : (pos now -ℤ pos before) <ℤ pos (2 ^ 63) = grind arith in high)

stmt_part : (address : ℕ) (first : Option ℕ) (row : LineRow) (before now : Bool) (bytes : List ℕ) (lines : List Line)
    → Runs bytes (machine_at address first (record row { is_stmt = now })) lines
    → Runs (unless (not (differs before now)) (0x06 ∷ []) ++ bytes) (machine_at address first (record row { is_stmt = before })) lines
stmt_part address first row true true bytes lines runs = runs
stmt_part address first row false false bytes lines runs = runs
stmt_part address first row true false bytes lines runs =
    op_runs NegateStmt 0x06 [] bytes (machine_at address first (record row { is_stmt = true })) (machine_at address first (record row { is_stmt = false })) None lines negate_reads refl runs
stmt_part address first row false true bytes lines runs =
    op_runs NegateStmt 0x06 [] bytes (machine_at address first (record row { is_stmt = false })) (machine_at address first (record row { is_stmt = true })) None lines negate_reads refl runs

-- a mark that is set, or not
mark_part : (set : Bool) (op : LineOp) (code : ℕ) (bytes : List ℕ) (old : Machine) (new : Bool → Machine) (lines : List Line) → IsCode op code [] → old ≡ new false
    → step op old ≡ Some (new true, None) → Runs bytes (new set) lines → Runs (unless (not set) (code ∷ []) ++ bytes) old lines
mark_part true op code bytes old new lines reads stays steps runs = op_runs op code [] bytes old (new true) None lines reads steps runs
mark_part false op code bytes old new lines reads stays steps runs = subst (λ machine. Runs bytes machine lines) (sym stays) runs

-- parts one behind the other
onto : (a b tail : List ℕ) (machine : Machine) (lines : List Line) → Runs (a ++ (b ++ tail)) machine lines → Runs ((a ++ b) ++ tail) machine lines
onto a b tail machine lines runs = subst (λ bytes. Runs bytes machine lines) (sym (append_assoc a b tail)) runs

-- the row as it's made, a part after another
abbrev made : Registers → LineRow → LineRow
made before row = record row { line = before.line }

pub row_runs : (numbers : NumbersReadBack) (address : ℕ) (first : Option ℕ) (before : Registers) (row : LineRow) (tail : List ℕ) (lines : List Line) → before.line < 2 ^ 32 → IsRow row
    → Runs tail (machine_at address first row) lines → Runs (row_bytes before row ++ tail) (ready address first before) lines
unfolding row_bytes
row_runs numbers address first before row tail lines small (file_fits, line_fits, column_fits, isa_fits, discriminator_fits) runs =
    let p1 : List ℕ = unless (before.file == row.file) (0x04 ∷ uleb_bytes row.file) in
    let p2 : List ℕ = unless (before.column == row.column) (0x05 ∷ uleb_bytes row.column) in
    let p3 : List ℕ = unless (row.discriminator == 0) (discriminator_bytes row.discriminator) in
    let p4 : List ℕ = unless (before.isa == row.isa) (0x0c ∷ uleb_bytes row.isa) in
    let p5 : List ℕ = unless (not (differs before.is_stmt row.is_stmt)) (0x06 ∷ []) in
    let p6 : List ℕ = unless (not row.basic_block) (0x07 ∷ []) in
    let p7 : List ℕ = unless (not row.prologue_end) (0x0a ∷ []) in
    let p8 : List ℕ = unless (not row.epilogue_begin) (0x0b ∷ []) in
    let p9 : List ℕ = unless (before.line == row.line) (0x03 ∷ sleb_bytes (pos row.line -ℤ pos before.line)) in
    let t9 : List ℕ = p9 ++ tail in
    let t8 : List ℕ = p8 ++ t9 in
    let t7 : List ℕ = p7 ++ t8 in
    let t6 : List ℕ = p6 ++ t7 in
    let t5 : List ℕ = p5 ++ t6 in
    let t4 : List ℕ = p4 ++ t5 in
    let t3 : List ℕ = p3 ++ t4 in
    let t2 : List ℕ = p2 ++ t3 in
    let m0 : Machine = ready address first before in
    let m1 : Machine = record m0 { row = record m0.row { file = row.file } } in
    let m2 : Machine = record m1 { row = record m1.row { column = row.column } } in
    let m3 : Machine = record m2 { row = record m2.row { discriminator = row.discriminator } } in
    let m4 : Machine = record m3 { row = record m3.row { isa = row.isa } } in
    let m8 : Machine = machine_at address first (made before row) in
    let r9 : Runs t9 m8 lines = line_part numbers m8 row.line tail lines small line_fits runs in
    let r8 : Runs t8 (machine_at address first (record (made before row) { epilogue_begin = false })) lines =
    mark_part row.epilogue_begin SetEpilogueBegin 0x0b t9 (machine_at address first (record (made before row) { epilogue_begin = false }))
    (λ set. machine_at address first (record (made before row) { epilogue_begin = set })) lines epilogue_reads refl refl r9 in
    let r7 : Runs t7 (machine_at address first (record (made before row) { prologue_end = false; epilogue_begin = false })) lines =
    mark_part row.prologue_end SetPrologueEnd 0x0a t8 (machine_at address first (record (made before row) { prologue_end = false; epilogue_begin = false }))
    (λ set. machine_at address first (record (made before row) { prologue_end = set; epilogue_begin = false })) lines prologue_reads refl refl r8 in
    let r6 : Runs t6 (machine_at address first (record (made before row) { basic_block = false; prologue_end = false; epilogue_begin = false })) lines =
    mark_part row.basic_block SetBasicBlock 0x07 t7 (machine_at address first (record (made before row) { basic_block = false; prologue_end = false; epilogue_begin = false }))
    (λ set. machine_at address first (record (made before row) { basic_block = set; prologue_end = false; epilogue_begin = false })) lines block_reads refl refl r7 in
    let r5 : Runs t5 m4 lines =
    stmt_part address first (record (made before row) { basic_block = false; prologue_end = false; epilogue_begin = false }) before.is_stmt row.is_stmt t6 lines r6 in
    let r4 : Runs t4 m3 lines = isa_part numbers m3 row.isa t5 lines isa_fits r5 in
    let r3 : Runs t3 m2 lines = discriminator_part numbers m2 row.discriminator t4 lines refl discriminator_fits r4 in
    let r2 : Runs t2 m1 lines = column_part numbers m1 row.column t3 lines column_fits r3 in
    let r1 : Runs (p1 ++ t2) m0 lines = file_part numbers m0 row.file t2 lines file_fits r2 in
    onto (((((((p1 ++ p2) ++ p3) ++ p4) ++ p5) ++ p6) ++ p7) ++ p8) p9 tail m0 lines
    (onto ((((((p1 ++ p2) ++ p3) ++ p4) ++ p5) ++ p6) ++ p7) p8 t9 m0 lines
    (onto (((((p1 ++ p2) ++ p3) ++ p4) ++ p5) ++ p6) p7 t8 m0 lines
    (onto ((((p1 ++ p2) ++ p3) ++ p4) ++ p5) p6 t7 m0 lines
    (onto (((p1 ++ p2) ++ p3) ++ p4) p5 t6 m0 lines
    (onto ((p1 ++ p2) ++ p3) p4 t5 m0 lines
    (onto (p1 ++ p2) p3 t4 m0 lines
    (onto p1 p2 t3 m0 lines r1)))))))
