-- From an entry's bytes to its instructions (DWARF 5, sections 6.4.2 and 7.24), with a code alignment of 1 and a data alignment of -8.
use Rattle.std.specs.Prelude.{ℕ, ◌+◌, ◌-◌, ◌*◌, ◌^◌, ℤ, pos, ◌*ℤ◌, neg_ℤ, List, [], ◌∷◌, Option, None, Some, ◌==◌, nat_lt, nat_le, int_lt, int_le, if◌then◌else◌, ◌&&◌}
use Rattle.std.specs.Option.{option_map, option_and_then}
use Rattle.cfi_rows.specs.declared.rows.CfiOp.TheVariants.{DefCfa, DefCfaRegister, DefCfaOffset, Set, Restore, Remember, RestoreState}
use Rattle.cfi_rows.specs.declared.rows.Rule.TheVariants.{Undefined, SameValue, Offset, ValueOffset, Register}
use Rattle.cfi_rows.specs.declared.rows.Insn.{Insn}
use Rattle.cfi_rows.specs.declared.rows.Insn.TheVariants.{Nop, Advance, Op}
use Rattle.leb128.specs.Reading.{uleb, sleb}

-- what the bytes begin with, and what follows it
abbrev pub Reader : Type 0 → Type 0
Reader A = List ℕ → Option (A × List ℕ)

-- a register is one of 0 to 63
abbrev pub small : ℕ × List ℕ → Option (ℕ × List ℕ)
small (number, rest) = if nat_lt number 64 then Some (number, rest) else None

-- a register
abbrev pub register_of : Reader ℕ
register_of bytes = option_and_then small (uleb bytes)

-- an offset that is not factored, below 2 ^ 63
abbrev pub within : ℕ × List ℕ → Option (ℤ × List ℕ)
within (number, rest) = if nat_lt number (2 ^ 63) then Some (pos number, rest) else None

-- an offset that is not factored
abbrev pub plain_of : Reader ℤ
plain_of bytes = option_and_then within (uleb bytes)

-- -8 times a number is not below -2 ^ 63
abbrev pub times : ℕ × List ℕ → Option (ℤ × List ℕ)
times (number, rest) = if nat_le number (2 ^ 60) then Some (pos number *ℤ neg_ℤ (pos 8), rest) else None

-- a factored offset
abbrev pub factored_of : Reader ℤ
factored_of bytes = option_and_then times (uleb bytes)

-- -8 times a signed number is within -2 ^ 63 to 2 ^ 63 - 1
abbrev pub times_signed : ℤ × List ℕ → Option (ℤ × List ℕ)
times_signed (number, rest) =
    if int_lt (neg_ℤ (pos (2 ^ 60))) number && int_le number (pos (2 ^ 60)) then Some (number *ℤ neg_ℤ (pos 8), rest) else None

-- a factored offset whose number has a sign
abbrev pub factored_signed_of : Reader ℤ
factored_signed_of bytes = option_and_then times_signed (sleb bytes)

-- a number in one byte
abbrev pub byte_of : Reader ℕ
byte_of [] = None
byte_of (a ∷ rest) = Some (a, rest)

-- a number in two bytes, the lowest first
abbrev pub two_bytes_of : Reader ℕ
two_bytes_of (a ∷ b ∷ rest) = Some (a + b * 256, rest)
two_bytes_of _ = None

-- a number in four bytes, the lowest first
abbrev pub four_bytes_of : Reader ℕ
four_bytes_of (a ∷ b ∷ c ∷ d ∷ rest) = Some (a + b * 256 + c * 65536 + d * 16777216, rest)
four_bytes_of _ = None

-- an instruction with one operand
abbrev pub one : {A : Type 0} → (A → Insn) → Reader A → Reader Insn
one make read bytes = option_map (λ a. (make a.0, a.1)) (read bytes)

-- an instruction with two operands
abbrev pub two : {A B : Type 0} → (A → B → Insn) → Reader A → Reader B → Reader Insn
two make read also bytes = option_and_then (λ a. one (make a.0) also a.1) (read bytes)

-- 00 to 04: nop, set_loc (not taken), advance_loc1, advance_loc2, advance_loc4
unfoldable pub nop_or_advance : ℕ → Reader Insn
nop_or_advance code rest =
    if code == 0x00 then Some (Nop, rest)
    else if code == 0x02 then one Advance byte_of rest
    else if code == 0x03 then one Advance two_bytes_of rest
    else if code == 0x04 then one Advance four_bytes_of rest
    else None

-- 05 to 09: offset_extended, restore_extended, undefined, same_value, register
unfoldable pub register_rule : ℕ → Reader Insn
register_rule code rest =
    if code == 0x05 then two (λ r z. Op (Set r (Offset z))) register_of factored_of rest
    else if code == 0x06 then one (λ r. Op (Restore r)) register_of rest
    else if code == 0x07 then one (λ r. Op (Set r Undefined)) register_of rest
    else if code == 0x08 then one (λ r. Op (Set r SameValue)) register_of rest
    else if code == 0x09 then two (λ r s. Op (Set r (Register s))) register_of register_of rest
    else None

-- 0a to 0e: remember_state, restore_state, def_cfa, def_cfa_register, def_cfa_offset
unfoldable pub state_or_cfa : ℕ → Reader Insn
state_or_cfa code rest =
    if code == 0x0a then Some (Op Remember, rest)
    else if code == 0x0b then Some (Op RestoreState, rest)
    else if code == 0x0c then two (λ r z. Op (DefCfa r z)) register_of plain_of rest
    else if code == 0x0d then one (λ r. Op (DefCfaRegister r)) register_of rest
    else if code == 0x0e then one (λ z. Op (DefCfaOffset z)) plain_of rest
    else None

-- 11 to 15: offset_extended_sf, def_cfa_sf, def_cfa_offset_sf, val_offset, val_offset_sf
unfoldable pub signed_or_value : ℕ → Reader Insn
signed_or_value code rest =
    if code == 0x11 then two (λ r z. Op (Set r (Offset z))) register_of factored_signed_of rest
    else if code == 0x12 then two (λ r z. Op (DefCfa r z)) register_of factored_signed_of rest
    else if code == 0x13 then one (λ z. Op (DefCfaOffset z)) factored_signed_of rest
    else if code == 0x14 then two (λ r z. Op (Set r (ValueOffset z))) register_of factored_of rest
    else if code == 0x15 then two (λ r z. Op (Set r (ValueOffset z))) register_of factored_signed_of rest
    else None

-- an instruction by its code of 00 to 3f
unfoldable pub extended : ℕ → Reader Insn
extended code rest =
    if nat_lt code 0x05 then nop_or_advance code rest
    else if nat_lt code 0x0a then register_rule code rest
    else if nat_lt code 0x10 then state_or_cfa code rest
    else signed_or_value code rest

-- the instruction that the bytes begin with, and what follows it; 40 to 7f: advance_loc, 80 to bf: offset, c0 to ff: restore
abbrev pub next : Reader Insn
next [] = None
next (code ∷ rest) =
    if nat_lt code 0x40 then extended code rest
    else if nat_lt code 0x80 then Some (Advance (code - 0x40), rest)
    else if nat_lt code 0xc0 then one (λ z. Op (Set (code - 0x80) (Offset z))) factored_of rest
    else Some (Op (Restore (code - 0xc0)), rest)
