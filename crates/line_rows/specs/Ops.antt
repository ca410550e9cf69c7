-- From bytes to the operations of the line machine (DWARF 5, sections 6.2.5 and 7.22), with a line base of -5, a line range of 14, an
-- opcode base of 13 and a minimum instruction length of 1.
use Rattle.std.specs.Prelude.{ℕ, zero, suc, ◌+◌, ◌-◌, ◌*◌, ◌/◌, ◌%◌, ◌^◌, pos, ◌-ℤ◌, List, [], ◌∷◌, Option, None, Some, length, take, drop, ◌==◌, ◌&&◌, nat_lt, nat_le, if◌then◌else◌}
use Rattle.std.specs.Option.{option_map, option_and_then}
use Rattle.line_rows.specs.declared.rows.LineOp.{LineOp}
use Rattle.line_rows.specs.declared.rows.LineOp.TheVariants.{Copy, AdvancePc, AdvanceLine, SetFile, SetColumn, NegateStmt, SetBasicBlock, SetPrologueEnd, SetEpilogueBegin, SetIsa, Special, EndSequence, SetAddress, SetDiscriminator, Skipped}
use Rattle.leb128.specs.Reading.{uleb, sleb}

-- what the bytes begin with, and what follows it
abbrev pub Reader : Type 0 → Type 0
Reader A = List ℕ → Option (A × List ℕ)

-- a number in two bytes, the lowest first
abbrev pub two_bytes_of : Reader ℕ
two_bytes_of (a ∷ b ∷ rest) = Some (a + b * 256, rest)
two_bytes_of _ = None

-- a number in four bytes, the lowest first
abbrev pub four_bytes_of : Reader ℕ
four_bytes_of (a ∷ b ∷ c ∷ d ∷ rest) = Some (a + b * 256 + c * 65536 + d * 16777216, rest)
four_bytes_of _ = None

-- an operation with one operand
abbrev pub one : {A : Type 0} → (A → LineOp) → Reader A → Reader LineOp
one make read bytes = option_map (λ a. (make a.0, a.1)) (read bytes)

-- an address in eight bytes
abbrev pub address_of : List ℕ → Option LineOp
address_of operands =
    option_and_then (λ low. option_map (λ high. SetAddress (low.0 + high.0 * 2 ^ 32)) (four_bytes_of low.1)) (four_bytes_of operands)

-- an extended opcode by its code: end_sequence, set_address, set_discriminator; others are skipped
unfoldable pub extended : ℕ → List ℕ → Option LineOp
extended code operands =
    if code == 0x01 then Some EndSequence
    else if code == 0x02 then address_of operands
    else if code == 0x04 then option_map (λ n. SetDiscriminator n.0) (uleb operands)
    else Some Skipped

-- by its length, which counts the code and the operands
abbrev pub of_length : ℕ × List ℕ → Option (LineOp × List ℕ)
of_length (size, []) = None
of_length (size, code ∷ rest) =
    if nat_lt 0 size && nat_le size (length rest + 1)
    then option_map (λ op. (op, drop (size - 1) rest)) (extended code (take (size - 1) rest)) else None

-- copy, advance_pc, advance_line, set_file, set_column
unfoldable pub first_standard : ℕ → Reader LineOp
first_standard code rest =
    if code == 0x01 then Some (Copy, rest)
    else if code == 0x02 then one AdvancePc uleb rest
    else if code == 0x03 then one AdvanceLine sleb rest
    else if code == 0x04 then one SetFile uleb rest
    else one SetColumn uleb rest

-- negate_stmt, set_basic_block, const_add_pc (special opcode 255's advance), fixed_advance_pc, set_prologue_end, set_epilogue_begin, set_isa
unfoldable pub second_standard : ℕ → Reader LineOp
second_standard code rest =
    if code == 0x06 then Some (NegateStmt, rest)
    else if code == 0x07 then Some (SetBasicBlock, rest)
    else if code == 0x08 then Some (AdvancePc 17, rest)
    else if code == 0x09 then one AdvancePc two_bytes_of rest
    else if code == 0x0a then Some (SetPrologueEnd, rest)
    else if code == 0x0b then Some (SetEpilogueBegin, rest)
    else one SetIsa uleb rest

-- the operation that the bytes begin with, and what follows it
abbrev pub next : Reader LineOp
next [] = None
next (code ∷ rest) =
    if code == 0x00 then option_and_then of_length (uleb rest)
    else if nat_lt code 0x06 then first_standard code rest
    else if nat_lt code 0x0d then second_standard code rest
    else Some (Special (pos ((code - 13) % 14) -ℤ pos 5) ((code - 13) / 14), rest)

-- the operations that the bytes are, if there are at most so many
abbrev pub decoded : ℕ → List ℕ → Option (List LineOp)
decoded zero [] = Some []
decoded zero (byte ∷ bytes) = None
decoded (suc more) [] = Some []
decoded (suc more) (byte ∷ bytes) =
    option_and_then (λ read. option_map (λ ops. read.0 ∷ ops) (decoded more read.1)) (next (byte ∷ bytes))
