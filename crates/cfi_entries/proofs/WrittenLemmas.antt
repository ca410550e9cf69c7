-- The row in force at a place, read from written lines, is the row after the instructions up to it.
use Rattle.std.proofs.Common.{◌≡◌, ℕ, zero, suc, ◌+◌, ◌-◌, ◌<◌, ◌≤◌, length, List, [], ◌∷◌, ◌++◌, replicate, Option, None, Some, refl, ◌∙◌, ap, subst, arith}
use Rattle.std.specs.Option.{option_map, option_and_then}
use Rattle.leb128.specs.Numbers.{NumbersReadBack}
use Rattle.cfi_rows.specs.declared.rows.CfaRow.{CfaRow}
use Rattle.cfi_rows.specs.declared.rows.Insn.{Insn}
use Rattle.cfi_rows.specs.declared.rows.Insn.TheVariants.{Nop, Advance, Op}
use Rattle.cfi_rows.specs.Instructions.{next}
use Rattle.cfi_rows.specs.Rows.{start_rows}
use Rattle.cfi_entries.specs.Places.{AreCodeOf, decoded, placed, row_after, row_in_force}
use Rattle.cfi_entries.specs.Lines.{Form, absent, inside, in_byte, in_two, in_four, advance_bytes, IsRoom, Line, bytes_of, AreLines, ops_of}
use Rattle.cfi_entries.proofs.RunLemmas.{decoded_on}
use Rattle.cfi_entries.proofs.FairLemmas.{read_is_shorter}
use Rattle.cfi_entries.proofs.PieceLemmas.{inside_reads, in_byte_reads, in_two_reads, in_four_reads, nop_reads, written_reads}

-- the bytes that are these instructions decode to them
pub decoded_code : (most : ℕ) (insns : List Insn) (bytes : List ℕ) → AreCodeOf insns bytes → length bytes ≤ most → decoded most bytes ≡ Some insns
decoded_code zero [] bytes code fits = ap (decoded zero) code
decoded_code (suc most) [] bytes code fits = ap (decoded (suc most)) code
decoded_code zero (insn ∷ insns) bytes (rest, reads, code) fits =
    absurd (let shorter : length rest < length bytes = read_is_shorter bytes rest insn reads in let none : ⊥ = omega arith in none)
decoded_code (suc most) (insn ∷ insns) bytes (rest, reads, code) fits =
    decoded_on most bytes rest insn reads
    ∙ ap (option_map (λ insns. insn ∷ insns))
    (decoded_code most insns rest code (let shorter : length rest < length bytes = read_is_shorter bytes rest insn reads in omega arith))

-- what bytes decode to, they are
none_read : (insns : List Insn) → Some [] ≡ Some insns → AreCodeOf insns []
none_read [] is = refl
none_read (insn ∷ insns) is = absurd (let none : ⊥ = cc in none)

first_read : (most : ℕ) (insns : List Insn) (bytes : List ℕ) (read : Option (Insn × List ℕ))
    → ((insns : List Insn) (bytes : List ℕ) → decoded most bytes ≡ Some insns → AreCodeOf insns bytes) → next bytes ≡ read
    → option_and_then (λ read. option_map (λ insns. read.0 ∷ insns) (decoded most read.1)) read ≡ Some insns → AreCodeOf insns bytes
first_read most insns bytes None below reads is = absurd (let none : ⊥ = cc in none)
first_read most insns bytes (Some (insn, rest)) below reads is = others_read (decoded most rest) refl is
  where
    others_read : (due : Option (List Insn)) → decoded most rest ≡ due → option_map (λ insns. insn ∷ insns) due ≡ Some insns → AreCodeOf insns bytes
    others_read None decodes is = absurd (let none : ⊥ = cc in none)
    others_read (Some others) decodes is =
        subst (λ insns. AreCodeOf insns bytes) (let same : insn ∷ others ≡ insns = cc in same) (rest, reads, below others rest decodes)

pub code_decoded : (most : ℕ) (insns : List Insn) (bytes : List ℕ) → decoded most bytes ≡ Some insns → AreCodeOf insns bytes
code_decoded zero insns [] is = none_read insns is
code_decoded zero insns (byte ∷ bytes) is = absurd (let none : ⊥ = cc in none)
code_decoded (suc most) insns [] is = none_read insns is
code_decoded (suc most) insns (byte ∷ bytes) is = first_read most insns (byte ∷ bytes) (next (byte ∷ bytes)) (code_decoded most) refl is

-- the instructions of an advance, and of lines
abbrev advance_insns : Form → ℕ → List Insn → List Insn
advance_insns absent distance insns = insns
advance_insns _ distance insns = Advance distance ∷ insns

abbrev insns_of : ℕ → ℕ → List Line → List Insn
insns_of padding here [] = replicate padding Nop
insns_of padding here (line ∷ lines) = advance_insns line.form (line.place - here) (Op line.op ∷ insns_of padding line.place lines)

padding_code : (padding : ℕ) → AreCodeOf (replicate padding Nop) (replicate padding 0)
padding_code zero = refl
padding_code (suc padding) = (replicate padding 0, nop_reads (replicate padding 0), padding_code padding)

advance_code : (form : Form) (distance : ℕ) (insns : List Insn) (tail : List ℕ) → IsRoom form distance → AreCodeOf insns tail
    → AreCodeOf (advance_insns form distance insns) (advance_bytes form distance ++ tail)
advance_code absent distance insns tail fits code = code
advance_code inside distance insns tail fits code = (tail, inside_reads distance tail fits, code)
advance_code in_byte distance insns tail fits code = (tail, in_byte_reads distance tail, code)
advance_code in_two distance insns tail fits code = (tail, in_two_reads distance tail, code)
advance_code in_four distance insns tail fits code = (tail, in_four_reads distance tail, code)

lines_code : (numbers : NumbersReadBack) (padding here : ℕ) (lines : List Line) → AreLines here lines → AreCodeOf (insns_of padding here lines) (bytes_of padding here lines)
lines_code numbers padding here [] good = padding_code padding
lines_code numbers padding here (line ∷ lines) (rises, fits, is_written, good) =
    advance_code line.form (line.place - here) (Op line.op ∷ insns_of padding line.place lines) (line.bytes ++ bytes_of padding line.place lines) fits (
      bytes_of padding line.place lines,
      written_reads numbers line.op line.bytes (bytes_of padding line.place lines) is_written,
      lines_code numbers padding line.place lines good,
    )

padding_placed : (padding here : ℕ) → placed here (replicate padding Nop) ≡ []
padding_placed zero here = refl
padding_placed (suc padding) here = padding_placed padding here

advance_placed : (form : Form) (here place : ℕ) (insns : List Insn) → here ≤ place → IsRoom form (place - here)
    → placed here (advance_insns form (place - here) insns) ≡ placed place insns
advance_placed absent here place insns rises fits = ap (λ at. placed at insns) (let same : here ≡ place = omega arith in same)
advance_placed inside here place insns rises fits = ap (λ at. placed at insns) (let same : here + (place - here) ≡ place = omega arith in same)
advance_placed in_byte here place insns rises fits = ap (λ at. placed at insns) (let same : here + (place - here) ≡ place = omega arith in same)
advance_placed in_two here place insns rises fits = ap (λ at. placed at insns) (let same : here + (place - here) ≡ place = omega arith in same)
advance_placed in_four here place insns rises fits = ap (λ at. placed at insns) (let same : here + (place - here) ≡ place = omega arith in same)

lines_placed : (padding here : ℕ) (lines : List Line) → AreLines here lines → placed here (insns_of padding here lines) ≡ ops_of lines
lines_placed padding here [] good = padding_placed padding here
lines_placed padding here (line ∷ lines) (rises, fits, is_written, good) =
    advance_placed line.form here line.place (Op line.op ∷ insns_of padding line.place lines) rises fits
    ∙ ap (λ ops. (line.place, line.op) ∷ ops) (lines_placed padding line.place lines good)

-- the row in force, read from written lines, is the row after those up to the place
pub written_row : (numbers : NumbersReadBack) (initial : CfaRow) (at padding : ℕ) (lines : List Line) → AreLines 0 lines
    → row_in_force initial at (bytes_of padding 0 lines) ≡ row_after initial at (ops_of lines) (start_rows initial)
unfolding row_in_force
written_row numbers initial at padding lines good =
    ap (option_and_then (λ insns. row_after initial at (placed 0 insns) (start_rows initial)))
    (decoded_code (length (bytes_of padding 0 lines)) (insns_of padding 0 lines) (bytes_of padding 0 lines) (lines_code numbers padding 0 lines good) (omega arith))
    ∙ ap (λ ops. row_after initial at ops (start_rows initial)) (lines_placed padding 0 lines good)
