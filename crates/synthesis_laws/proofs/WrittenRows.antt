-- Rows of items whose instructions can be written.
use Rattle.std.proofs.Common.{◌≡◌, ◌≢◌, ℕ, zero, suc, ◌-◌, ◌^◌, ◌<◌, ◌⊎◌, inl, inr, nat_lt, Bool, true, false, cond, ℤ, Option, Some, None, IsSome, List, refl, sym, ap, subst, ◌∙◌, arith, w64}
use Rattle.std.specs.Int.{cast_signed}
use Rattle.std.proofs.lemmas.Bool.{cases_eq}
use Rattle.std.proofs.lemmas.Bool.Decides.{nat_tests}
use Rattle.std.proofs.lemmas.Int.{to_z_pos}
use Rattle.std.proofs.Math.Facts.{to_z-neg}
use Rattle.cfi_entries.specs.Written.{cfa_offset, of_register}
use Rattle.stack_depths.specs.Distances.{Distances}
use Rattle.stack_facts.specs.Places.{below, gap, is_slot_place}
use Rattle.stack_facts.specs.Facts.{Fact}
use Rattle.scfi_pass.specs.declared.rows.Cfa.{Cfa}
use Rattle.scfi_pass.specs.declared.rows.StackRow.{StackRow}
use Rattle.scfi_pass.specs.Registers.{dwarf_number}
use Rattle.scfi_pass.specs.Rows.{at_most_zero, known_by, low_by, or_else, other_cfa, stack_cfa, cfa_of, IsRuleOf, IsRow, offset_of}
use Rattle.scfi_pass.specs.Faults.{at_exit}
use Rattle.scfi_pass.specs.Tables.{entry_row}
use Rattle.synthesis_laws.proofs.KnownDistances.{AreSmall}
use Rattle.synthesis_laws.proofs.SameRows.{ArePlaced}

-- the frame address is counted from one of the seven, which is not above it
pub record IsFitCfa (cfa : Cfa) : Type 0 where
  pub one : cfa.register < 7
  pub small : cfa.distance < 2 ^ 64
  pub low : at_most_zero cfa.distance ≡ true

-- a slot, if there is one, lies at a place of slots
abbrev pub IsFitSlot : Option ℕ → Type 0
IsFitSlot None = Unit {0}
IsFitSlot (Some n) = is_slot_place n ≡ true

-- a row whose instructions can be written
pub record IsFit (row : StackRow) : Type 0 where
  pub cfa : IsFitCfa row.cfa
  pub rbx : IsFitSlot row.rbx
  pub rbp : IsFitSlot row.rbp
  pub r12 : IsFitSlot row.r12
  pub r13 : IsFitSlot row.r13
  pub r14 : IsFitSlot row.r14
  pub r15 : IsFitSlot row.r15

-- the row at entry is one
pub entry_fit : IsFit entry_row
entry_fit = record { cfa = record { one = omega arith; small = omega arith; low = refl }; rbx = tt; rbp = tt; r12 = tt; r13 = tt; r14 = tt; r15 = tt }

-- what is there, if it is, is counted so
abbrev IsFitFound : Option Cfa → Type 0
IsFitFound None = Unit {0}
IsFitFound (Some cfa) = IsFitCfa cfa

-- of two of which one is taken
either_fit : (one other : Option Cfa) → IsFitFound one → IsFitFound other → IsFitFound (or_else one other)
either_fit None other x y = y
either_fit (Some cfa) other x y = x

-- a register that is at most at the frame address
low_fit : (r : ℕ) (distance : Option ℕ) → r < 7 → ((d : ℕ) → distance ≡ Some d → d < 2 ^ 64) → IsFitFound (low_by r distance)
low_fit r None one small = tt
low_fit r (Some d) one small = by (at_most_zero d) refl
  where
    by : (b : Bool) → at_most_zero d ≡ b → IsFitFound (cond b (Some (record { register = r; distance = d })) None)
    by true low = record { one = one; small = small d refl; low = low }
    by false low = tt

-- rsp, which is not above the return address
stack_fit : (distance : Option ℕ) → ((d : ℕ) → distance ≡ Some d → d < 2 ^ 64) → ((d : ℕ) → distance ≡ Some d → below at_exit d ≡ false) → IsFitFound (known_by 0 distance)
stack_fit None small low = tt
stack_fit (Some d) small low = record { one = omega arith; small = small d refl; low = under d (small d refl) (low d refl) }
  where
    under : (n : ℕ) → n < 2 ^ 64 → below at_exit n ≡ false → at_most_zero n ≡ true
    under n fits not_above = grind (arith, nat_tests)

-- the frame address of an item
cfa_fit : (known : Distances) → AreSmall known → ((d : ℕ) → known 0 ≡ Some d → below at_exit d ≡ false) → IsFitFound (cfa_of known)
cfa_fit known small low =
    either_fit (low_by 2 (known 2)) (stack_cfa known) (low_fit 2 (known 2) (omega arith) (small 2))
    (either_fit (known_by 0 (known 0)) (other_cfa known) (stack_fit (known 0) (small 0) low)
    (either_fit (low_by 1 (known 1)) _ (low_fit 1 (known 1) (omega arith) (small 1))
    (either_fit (low_by 3 (known 3)) _ (low_fit 3 (known 3) (omega arith) (small 3))
    (either_fit (low_by 4 (known 4)) _ (low_fit 4 (known 4) (omega arith) (small 4))
    (either_fit (low_by 5 (known 5)) (low_by 6 (known 6)) (low_fit 5 (known 5) (omega arith) (small 5)) (low_fit 6 (known 6) (omega arith) (small 6)))))))

-- the rule of a register
rule_fit : (stands : Fact → Bool) (r : ℕ) (rule : Option ℕ) → ArePlaced stands → IsRuleOf stands r rule → IsFitSlot rule
rule_fit stands r None placed is = tt
rule_fit stands r (Some n) placed is = placed n r is.0

-- the row of an item
pub row_fit : (known : Distances) (stands : Fact → Bool) (row : StackRow) → AreSmall known → ((d : ℕ) → known 0 ≡ Some d → below at_exit d ≡ false)
    → ArePlaced stands → IsRow known stands row → IsFit row
row_fit known stands row small low placed is = record {
  cfa = let Found : Option Cfa → Type 0 = IsFitFound in subst Found is.cfa (cfa_fit known small low);
  rbx = rule_fit stands 1 row.rbx placed is.rbx;
  rbp = rule_fit stands 2 row.rbp placed is.rbp;
  r12 = rule_fit stands 3 row.r12 placed is.r12;
  r13 = rule_fit stands 4 row.r13 placed is.r13;
  r14 = rule_fit stands 5 row.r14 placed is.r14;
  r15 = rule_fit stands 6 row.r15 placed is.r15;
}

-- numbers in DWARF are below 64
pub number_fits : (q : ℕ) → q < 7 → dwarf_number q < 64
number_fits zero one = omega arith
number_fits (suc zero) one = omega arith
number_fits (suc (suc zero)) one = omega arith
number_fits (suc (suc (suc zero))) one = omega arith
number_fits (suc (suc (suc (suc zero)))) one = omega arith
number_fits (suc (suc (suc (suc (suc zero))))) one = omega arith
number_fits (suc (suc (suc (suc (suc (suc zero)))))) one = omega arith
number_fits (suc (suc (suc (suc (suc (suc (suc more))))))) one = absurd (let none : ⊥ = omega arith in none)

-- a register below 64 is written
pub register_written : (number : ℕ) (bytes : Option (List ℕ)) → number < 64 → IsSome bytes → IsSome (of_register number bytes)
register_written number bytes fits some = by (nat_lt number 64) (within number fits)
  where
    within : (n : ℕ) → n < 64 → nat_lt n 64 ≡ true
    within n low = grind (arith, nat_tests)

    by : (b : Bool) → b ≡ true → IsSome (cond b bytes None)
    by true is = some
    by false is = absurd (let none : ⊥ = cc in none)

-- the distance of a register from the frame address, the other way
back : (d : ℕ) → d < 2 ^ 64 → at_most_zero d ≡ true → ((n : ℕ) × (n < 2 ^ 63) × (gap d 0 ≡ n)) ⊎ (gap d 0 ≡ 2 ^ 64 - suc (2 ^ 63 - 1))
back d small low = by (cases_eq d (2 ^ 63))
  where
    below_top : (n : ℕ) → n < 2 ^ 64 → at_most_zero n ≡ true → n ≢ 2 ^ 63 → gap n 0 < 2 ^ 63
    below_top n fits not_above other = grind (arith, nat_tests)

    by : (d ≡ 2 ^ 63) ⊎ (d ≢ 2 ^ 63) → ((n : ℕ) × (n < 2 ^ 63) × (gap d 0 ≡ n)) ⊎ (gap d 0 ≡ 2 ^ 64 - suc (2 ^ 63 - 1))
    by (inl top) = inr (ap (λ n. gap n 0) top)
    by (inr other) = inl (gap d 0, below_top d small low other, refl)

-- an offset at or above 0 is written, and the lowest one
pub offset_written : (plain factored : List ℕ) (d : ℕ) → d < 2 ^ 64 → at_most_zero d ≡ true → IsSome (cfa_offset plain factored (offset_of d))
offset_written plain factored d small low = by (back d small low)
  where
    above : (b : Bool) (n : ℕ) (bytes : List ℕ) → b ≡ true → IsSome (cond b (Some bytes) None)
    above true n bytes is = refl
    above false n bytes is = cc

    fits : (n : ℕ) → n < 2 ^ 63 → nat_lt n (2 ^ 63) ≡ true
    fits n less = grind (arith, nat_tests)

    Written : ℤ → Type 0
    Written offset = IsSome (cfa_offset plain factored offset)

    by : ((n : ℕ) × (n < 2 ^ 63) × (gap d 0 ≡ n)) ⊎ (gap d 0 ≡ 2 ^ 64 - suc (2 ^ 63 - 1)) → IsSome (cfa_offset plain factored (offset_of d))
    by (inl is) = subst Written (sym (ap (cast_signed w64) is.2 ∙ to_z_pos w64 is.0 is.1)) (above (nat_lt is.0 (2 ^ 63)) is.0 _ (fits is.0 is.1))
    by (inr is) = subst Written (sym (ap (cast_signed w64) is ∙ to_z-neg w64 (2 ^ 63 - 1) (omega arith))) refl
