-- What a row of a frame table recovers of the caller (DWARF 5, section 6.4; psABI for AMD64,
-- sections 3.2.1 and 3.6.2), and which rows are supported by what is known.
use Rattle.std.specs.Prelude.{◌≡◌, ◌+◌, ◌<◌, ◌==◌, ℕ, ℤ, pos, neg_ℤ, Bool, true, Some, slice_index_or, if◌then◌else◌}
use Rattle.std.specs.Int.{w64, cast_unsigned}
use Rattle.insn_effects.specs.Followed.{wrap}
use Rattle.cfi_rows.specs.declared.rows.CfaRow.{CfaRow}
use Rattle.cfi_rows.specs.declared.rows.Rule.{Rule}
use Rattle.cfi_rows.specs.declared.rows.Rule.TheVariants.{Unspecified, Undefined, SameValue, Offset, ValueOffset, Register}
use Rattle.stack_depths.specs.Distances.{Distances}
use Rattle.stack_facts.specs.Places.{is_saved}
use Rattle.stack_facts.specs.Facts.{Fact, entry, slot}
use Rattle.scfi_pass.specs.Faults.{at_exit}
use Rattle.scfi_pass.specs.Registers.{dwarf_number}
use Rattle.x86_steps.specs.Memory.{word_at}
use Rattle.x86_steps.specs.States.{State}
use Rattle.scfi_laws.specs.Performing.{held}

-- the number in the processor of the register of a number in DWARF (psABI for AMD64, figure 3.36)
abbrev pub register_numbered : ℕ → ℕ
register_numbered d =
    if d == 7 then 4 else if d == 6 then 5 else if d == 1 then 2 else if d == 2 then 1
    else if d == 4 then 6 else if d == 5 then 7 else d

-- an offset modulo 2 ^ 64
abbrev pub modular : ℤ → ℕ
modular offset = cast_unsigned w64 offset

-- the rule of a register by its number in DWARF
abbrev pub rule_in : CfaRow → ℕ → Rule
rule_in row d = slice_index_or row.rules d Unspecified

-- by the row the return address stands 8 below the frame address; 16 is its number in DWARF (psABI
-- for AMD64, figure 3.36)
abbrev pub HasReturn : CfaRow → Type 0
HasReturn row = rule_in row 16 ≡ Offset (neg_ℤ (pos 8))

-- the frame address by the row
abbrev pub frame_by : CfaRow → State → ℕ
frame_by row now = wrap (now.registers (register_numbered row.register) + modular row.offset)

-- by its rule, where the frame address is this, a register has the value that it had at entry
abbrev pub RecoversBy : Rule → (register frame : ℕ) → (now start : State) → Type 0
RecoversBy Unspecified r frame now start = held now r ≡ held start r
RecoversBy SameValue r frame now start = held now r ≡ held start r
RecoversBy (Offset z) r frame now start = word_at now.memory (frame + modular z) ≡ held start r
RecoversBy Undefined r frame now start = ⊥
RecoversBy (ValueOffset z) r frame now start = ⊥
RecoversBy (Register q) r frame now start = ⊥

-- by the row, which counts the frame address from a register of the processor, the caller's frame
-- address, the return address and the callee-saved registers are those at entry
pub record Recovers (row : CfaRow) (now start : State) : Type 0 where
  pub counted : row.register < 16
  pub frame_address : frame_by row now ≡ wrap (start.registers 4 + 8)
  pub return_rule : HasReturn row
  pub return_address : word_at now.memory (frame_by row now + at_exit)
      ≡ word_at start.memory (start.registers 4)
  pub registers : (r : ℕ) → is_saved r ≡ true
      → RecoversBy (rule_in row (dwarf_number r)) r (frame_by row now) now start

-- the seven registers hold what they held at entry
abbrev pub IsAsAtEntry : (now start : State) → Type 0
IsAsAtEntry now start = (q : ℕ) → q < 7 → held now q ≡ held start q

-- a rule of a register says what stands of it
abbrev pub Supports : (stands : Fact → Bool) → (register : ℕ) → Rule → Type 0
Supports stands r Unspecified = stands (entry r) ≡ true
Supports stands r SameValue = stands (entry r) ≡ true
Supports stands r (Offset z) = stands (slot (modular z) r) ≡ true
Supports stands r Undefined = ⊥
Supports stands r (ValueOffset z) = ⊥
Supports stands r (Register q) = ⊥

-- the row counts the frame address from one of the seven whose distance is known, and from no other
-- register; it has the return address 8 below that, and a rule for each callee-saved register that
-- says what stands
pub record IsSupported (known : Distances) (stands : Fact → Bool) (row : CfaRow) : Type 0 where
  pub register : ℕ
  pub among : register < 7
  pub counted : row.register ≡ dwarf_number register
  pub distance : ℕ
  pub lies : known register ≡ Some distance
  pub reaches : wrap (distance + modular row.offset) ≡ 0
  pub return_rule : HasReturn row
  pub rules : (r : ℕ) → is_saved r ≡ true → Supports stands r (rule_in row (dwarf_number r))
