-- Which instructions have a form in a frame table (DWARF 5, section 6.4.2): registers are below 64, numbers have 64 signed bits, and what is factored is
-- a multiple of the data alignment factor.
use Rattle.std.specs.Prelude.{◌%◌, ◌^◌, ◌==◌, ◌&&◌, ◌||◌, not, nat_lt, Bool, true, false, ℤ, pos, negsuc, unsigned_abs}
use Rattle.cfi_rows.specs.declared.rows.CfiOp.{CfiOp}
use Rattle.cfi_rows.specs.declared.rows.CfiOp.TheVariants.{DefCfa, DefCfaRegister, DefCfaOffset, Set, Restore, Remember, RestoreState}
use Rattle.cfi_rows.specs.declared.rows.Rule.{Rule}
use Rattle.cfi_rows.specs.declared.rows.Rule.TheVariants.{Unspecified, Undefined, SameValue, Offset, ValueOffset, Register}

-- 64 signed bits hold the number
abbrev pub fits : ℤ → Bool
fits (pos number) = nat_lt number (2 ^ 63)
fits (negsuc number) = nat_lt number (2 ^ 63)

-- the number is a multiple of 8, so that it can be factored
abbrev pub is_factorable : ℤ → Bool
is_factorable number = unsigned_abs number % 8 == 0

-- the number is below 0
abbrev pub is_below_zero : ℤ → Bool
is_below_zero (pos number) = false
is_below_zero (negsuc number) = true

-- the offset of a slot, which is always factored
abbrev pub is_slot_offset : ℤ → Bool
is_slot_offset offset = fits offset && is_factorable offset

-- the offset of the CFA, which is factored where it is below 0
abbrev pub is_cfa_offset : ℤ → Bool
is_cfa_offset offset = fits offset && (not (is_below_zero offset) || is_factorable offset)

-- an instruction gives the rule; `Restore` alone gives none
abbrev pub is_writable_rule : Rule → Bool
is_writable_rule Unspecified = false
is_writable_rule Undefined = true
is_writable_rule SameValue = true
is_writable_rule (Offset offset) = is_slot_offset offset
is_writable_rule (ValueOffset offset) = is_slot_offset offset
is_writable_rule (Register number) = nat_lt number 64

-- the instruction has a form
abbrev pub is_writable : CfiOp → Bool
is_writable (DefCfa number offset) = nat_lt number 64 && is_cfa_offset offset
is_writable (DefCfaRegister number) = nat_lt number 64
is_writable (DefCfaOffset offset) = is_cfa_offset offset
is_writable (Set number rule) = nat_lt number 64 && is_writable_rule rule
is_writable (Restore number) = nat_lt number 64
is_writable Remember = true
is_writable RestoreState = true
