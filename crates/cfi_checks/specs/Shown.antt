-- What is known and stands at an item shows that a row gives back the caller's state (DWARF 5, section 6.4.1; psABI for AMD64, section 3.2.1).
use Rattle.std.specs.Prelude.{◌≡◌, ◌+◌, ◌<◌, ℕ, ℤ, pos, neg_ℤ, Bool, true, Some}
use Rattle.std.specs.Int.{w64, cast_unsigned}
use Rattle.cfi_rows.specs.declared.rows.Rule.{Rule}
use Rattle.cfi_rows.specs.declared.rows.Rule.TheVariants.{Unspecified, Undefined, SameValue, Offset, ValueOffset, Register}
use Rattle.insn_effects.specs.Followed.{wrap}
use Rattle.stack_depths.specs.Distances.{Distances}
use Rattle.stack_facts.specs.Places.{is_saved}
use Rattle.stack_facts.specs.Facts.{Fact, entry, slot}
use Rattle.scfi_pass.specs.Registers.{dwarf_number}
use Rattle.cfi_checks.specs.declared.rows.WrittenRow.{WrittenRow}
use Rattle.cfi_checks.specs.Rows.{rule_of}

-- an offset modulo 2 ^ 64
abbrev pub modular : ℤ → ℕ
modular offset = cast_unsigned w64 offset

-- the frame address is counted from one of the seven registers, whose distance is known to be minus the offset
pub record ShowsFrame (known : Distances) (row : WrittenRow) : Type 0 where
  pub register : ℕ
  pub among : register < 7
  pub counted : row.register ≡ dwarf_number register
  pub distance : ℕ
  pub lies : known register ≡ Some distance
  pub reaches : wrap (distance + modular row.offset) ≡ 0

-- the value of a register at entry stands where its rule says
abbrev pub Shows : (stands : Fact → Bool) → (register : ℕ) → Rule → Type 0
Shows stands r Unspecified = stands (entry r) ≡ true
Shows stands r SameValue = stands (entry r) ≡ true
Shows stands r (Offset n) = stands (slot (modular n) r) ≡ true
Shows stands r Undefined = ⊥
Shows stands r (ValueOffset n) = ⊥
Shows stands r (Register q) = ⊥

-- that of each of the six does
abbrev pub ShowsRegisters : (stands : Fact → Bool) → WrittenRow → Type 0
ShowsRegisters stands row = (r : ℕ) → is_saved r ≡ true → Shows stands r (rule_of row r)

-- the return address stands 8 below the frame address
abbrev pub ShowsReturn : WrittenRow → Type 0
ShowsReturn row = row.return_address ≡ Offset (neg_ℤ (pos 8))
