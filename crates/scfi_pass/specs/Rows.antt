-- The row of an item: the frame address, and where the entry value of each of the six registers is (DWARF 5, section 6.4.1).
use Rattle.std.specs.Prelude.{◌≡◌, ◌^◌, ◌==◌, ◌||◌, ℕ, ℤ, nat_le, Bool, true, Option, None, Some, if◌then◌else◌, List, slice_set}
use Rattle.std.specs.Int.{w64, cast_signed}
use Rattle.cfi_rows.specs.declared.rows.CfaRow.{CfaRow}
use Rattle.cfi_rows.specs.declared.rows.Rule.{Rule}
use Rattle.cfi_rows.specs.declared.rows.Rule.TheVariants.{Unspecified, Offset}
use Rattle.cfi_rows.specs.Rows.{common_row}
use Rattle.stack_depths.specs.Distances.{Distances}
use Rattle.stack_facts.specs.Places.{gap}
use Rattle.stack_facts.specs.Facts.{Fact, entry, IsSlotOf}
use Rattle.scfi_pass.specs.declared.rows.Cfa.{Cfa}
use Rattle.scfi_pass.specs.declared.rows.StackRow.{StackRow}
use Rattle.scfi_pass.specs.Registers.{dwarf_number}

-- as a signed number the distance is at most 0
abbrev pub at_most_zero : ℕ → Bool
at_most_zero distance = distance == 0 || nat_le (2 ^ 63) distance

-- a register with its distance, if it is known
abbrev pub known_by : (register : ℕ) → Option ℕ → Option Cfa
known_by r None = None
known_by r (Some distance) = Some (record { register = r; distance = distance })

-- the same, if it is at most 0
abbrev pub low_by : (register : ℕ) → Option ℕ → Option Cfa
low_by r None = None
low_by r (Some distance) = if at_most_zero distance then Some (record { register = r; distance = distance }) else None

-- the first one that there is
abbrev pub or_else : Option Cfa → Option Cfa → Option Cfa
or_else None other = other
or_else (Some cfa) other = Some cfa

-- the frame address is counted from the first of rbx, r12 to r15 whose distance is known and at most 0
abbrev pub other_cfa : Distances → Option Cfa
other_cfa known =
    or_else (low_by 1 (known 1)) (or_else (low_by 3 (known 3)) (or_else (low_by 4 (known 4)) (or_else (low_by 5 (known 5)) (low_by 6 (known 6)))))

-- from rsp if its distance is known, else from the first of those
abbrev pub stack_cfa : Distances → Option Cfa
stack_cfa known = or_else (known_by 0 (known 0)) (other_cfa known)

-- from rbp if its distance is known and at most 0, else from rsp if known, else from the first of rbx, r12 to r15 whose distance is known and at most 0
abbrev pub cfa_of : Distances → Option Cfa
cfa_of known = or_else (low_by 2 (known 2)) (stack_cfa known)

-- a register has its slot with the greatest distance, or else its entry value still
abbrev pub IsRuleOf : (stands : Fact → Bool) → (register : ℕ) → Option ℕ → Type 0
IsRuleOf stands r None = IsSlotOf stands r None × (stands (entry r) ≡ true)
IsRuleOf stands r (Some n) = IsSlotOf stands r (Some n)

-- where each of the six is
pub record AreRules (stands : Fact → Bool) (row : StackRow) : Type 0 where
  pub rbx : IsRuleOf stands 1 row.rbx
  pub rbp : IsRuleOf stands 2 row.rbp
  pub r12 : IsRuleOf stands 3 row.r12
  pub r13 : IsRuleOf stands 4 row.r13
  pub r14 : IsRuleOf stands 5 row.r14
  pub r15 : IsRuleOf stands 6 row.r15

-- the row by what is known and stands at an item
pub record IsRow (known : Distances) (stands : Fact → Bool) (row : StackRow) : Type 0 where
  pub cfa : cfa_of known ≡ Some row.cfa
  pub rbx : IsRuleOf stands 1 row.rbx
  pub rbp : IsRuleOf stands 2 row.rbp
  pub r12 : IsRuleOf stands 3 row.r12
  pub r13 : IsRuleOf stands 4 row.r13
  pub r14 : IsRuleOf stands 5 row.r14
  pub r15 : IsRuleOf stands 6 row.r15

-- a distance as a signed number
abbrev pub signed : ℕ → ℤ
signed distance = cast_signed w64 distance

-- a register has its entry value still, or it stands in memory
abbrev pub rule_of : Option ℕ → Rule
rule_of None = Unspecified
rule_of (Some n) = Offset (signed n)

-- a rule of one of the seven put into a row
abbrev pub with_slot : ℕ → Option ℕ → List Rule → List Rule
with_slot q n rules = slice_set rules (dwarf_number q) (rule_of n)

-- the frame address less the register's value, modulo 2 ^ 64, as a signed number
abbrev pub offset_of : ℕ → ℤ
offset_of distance = signed (gap distance 0)

-- the whole row: all other rules are those of the common entry
abbrev pub whole_row : StackRow → CfaRow
whole_row row = record {
  register = dwarf_number row.cfa.register;
  offset = offset_of row.cfa.distance;
  rules = with_slot 6 row.r15 (with_slot 5 row.r14 (with_slot 4 row.r13 (with_slot 3 row.r12 (with_slot 2 row.rbp (with_slot 1 row.rbx common_row.rules)))));
}
