-- The bytes that instructions are written as (DWARF 5, sections 6.4.2 and 7.24), with a code alignment of 1 and a data alignment of -8.
use Rattle.std.specs.Prelude.{◌≡◌, ◌⊎◌, ℕ, zero, suc, ◌+◌, ◌-◌, ◌/◌, ◌%◌, ◌^◌, ℤ, pos, negsuc, neg_ℤ, List, [], ◌∷◌, ◌++◌, Option, None, Some, IsSome, slice_get, nat_lt, nat_le, ◌==◌, ◌&&◌, if◌then◌else◌}
use Rattle.std.specs.Option.{option_map}
use Rattle.leb128.specs.Digits.{uleb_bytes, sleb_bytes}
use Rattle.cfi_rows.specs.declared.rows.CfaRow.{CfaRow}
use Rattle.cfi_rows.specs.declared.rows.CfiOp.{CfiOp}
use Rattle.cfi_rows.specs.declared.rows.CfiOp.TheVariants.{DefCfa, DefCfaRegister, DefCfaOffset, Set, Restore, Remember, RestoreState}
use Rattle.cfi_rows.specs.declared.rows.Rule.{Rule}
use Rattle.cfi_rows.specs.declared.rows.Rule.TheVariants.{Unspecified, Undefined, SameValue, Offset, ValueOffset, Register}
use Rattle.cfi_rows.specs.Differences.{rule_op}

-- a distance of at most so many bytes over 8, if it's a multiple
abbrev pub slots : ℕ → ℕ → Option ℕ
slots most distance = if nat_le distance most && (distance % 8 == 0) then Some (distance / 8) else None

-- the CFA's offset: as it is behind some bytes, or factored behind others, where it's below 0
abbrev pub cfa_offset : List ℕ → List ℕ → ℤ → Option (List ℕ)
cfa_offset plain factored (pos offset) = if nat_lt offset (2 ^ 63) then Some (plain ++ uleb_bytes offset) else None
cfa_offset plain factored (negsuc distance) = option_map (λ number. factored ++ sleb_bytes (pos number)) (slots (2 ^ 63) (distance + 1))

-- an offset from the CFA, factored: behind some bytes where it's 0 or below, and behind others where it's above
abbrev pub rule_offset : List ℕ → List ℕ → ℤ → Option (List ℕ)
rule_offset below above (pos zero) = Some (below ++ uleb_bytes 0)
rule_offset below above (pos (suc distance)) = option_map (λ number. above ++ sleb_bytes (neg_ℤ (pos number))) (slots (2 ^ 63 - 1) (distance + 1))
rule_offset below above (negsuc distance) = option_map (λ number. below ++ uleb_bytes number) (slots (2 ^ 63) (distance + 1))

-- a register of 0 to 63 gets a rule: undefined, same_value, offset, offset_extended_sf, val_offset, val_offset_sf, register
abbrev pub rule_written : ℕ → Rule → Option (List ℕ)
rule_written number Unspecified = None
rule_written number Undefined = Some (0x07 ∷ number ∷ [])
rule_written number SameValue = Some (0x08 ∷ number ∷ [])
rule_written number (Offset offset) = rule_offset ((0x80 + number) ∷ []) (0x11 ∷ number ∷ []) offset
rule_written number (ValueOffset offset) = rule_offset (0x14 ∷ number ∷ []) (0x15 ∷ number ∷ []) offset
rule_written number (Register other) = if nat_lt other 64 then Some (0x09 ∷ number ∷ other ∷ []) else None

-- a register above 63 is not written
abbrev pub of_register : ℕ → Option (List ℕ) → Option (List ℕ)
of_register number bytes = if nat_lt number 64 then bytes else None

-- the bytes of an instruction: def_cfa, def_cfa_sf, def_cfa_register, def_cfa_offset, def_cfa_offset_sf, the rules, restore,
-- remember_state, restore_state; none where no form holds it
abbrev pub written : CfiOp → Option (List ℕ)
written (DefCfa number offset) = of_register number (cfa_offset (0x0c ∷ number ∷ []) (0x12 ∷ number ∷ []) offset)
written (DefCfaRegister number) = of_register number (Some (0x0d ∷ number ∷ []))
written (DefCfaOffset offset) = cfa_offset (0x0e ∷ []) (0x13 ∷ []) offset
written (Set number rule) = of_register number (rule_written number rule)
written (Restore number) = of_register number (Some ((0xc0 + number) ∷ []))
written Remember = Some (0x0a ∷ [])
written RestoreState = Some (0x0b ∷ [])

-- the second row's CFA can be written, and each rule of it stands in the first already or can be written
abbrev pub HaveForms : CfaRow → CfaRow → Type 0
HaveForms from to = IsSome (written (DefCfa to.register to.offset))
    × ((number : ℕ) (rule : Rule) → slice_get to.rules number ≡ Some rule
    → (slice_get from.rules number ≡ Some rule) ⊎ IsSome (written (rule_op number rule)))
