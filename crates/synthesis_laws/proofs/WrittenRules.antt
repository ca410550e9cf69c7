-- The rules of rows can be written.
use Rattle.std.proofs.Common.{◌≡◌, ◌≢◌, ℕ, zero, suc, ◌+◌, ◌-◌, ◌%◌, ◌/◌, ◌^◌, ◌<◌, ◌≤◌, ◌==◌, ◌&&◌, ◌⊎◌, inl, inr, nat_le, Bool, true, false, cond, ℤ, negsuc, Option, Some, None, IsSome, List, [], ◌∷◌, replicate, slice_get, slice_set, refl, sym, ap, subst, ◌∙◌, arith, w64}
use Rattle.std.specs.Option.{option_map}
use Rattle.std.specs.Int.{cast_signed}
use Rattle.std.proofs.lemmas.Bool.{cases_eq}
use Rattle.std.proofs.lemmas.Bool.Decides.{nat_tests}
use Rattle.std.proofs.Math.Facts.{to_z-neg}
use Rattle.cfi_rows.specs.declared.rows.CfiOp.TheVariants.{DefCfa}
use Rattle.cfi_rows.specs.declared.rows.Rule.{Rule}
use Rattle.cfi_rows.specs.declared.rows.Rule.TheVariants.{Unspecified, Offset}
use Rattle.cfi_rows.specs.Rows.{common_row}
use Rattle.cfi_entries.specs.Written.{slots, cfa_offset, rule_written, written}
use Rattle.cfi_rows.specs.Differences.{rule_op}
use Rattle.cfi_entries.specs.Written.{HaveForms}
use Rattle.stack_facts.specs.Places.{is_slot_place}
use Rattle.scfi_pass.specs.declared.rows.StackRow.{StackRow}
use Rattle.scfi_pass.specs.Registers.{dwarf_number}
use Rattle.scfi_pass.specs.Rows.{signed, rule_of, with_slot, offset_of, whole_row}
use Rattle.synthesis_laws.proofs.WrittenRows.{IsFitSlot, IsFit, number_fits, register_written, offset_written}

-- each rule can be written
abbrev AreWritten : List Rule → Type 0
AreWritten rules = (number : ℕ) (rule : Rule) → slice_get rules number ≡ Some rule → IsSome (written (rule_op number rule))

-- a place of slots as a signed number: so many bytes below the frame address, and one
bytes_below : (n : ℕ) → is_slot_place n ≡ true → (k : ℕ) × (k < 2 ^ 63) × (n ≡ 2 ^ 64 - suc k) × ((k + 1) % 8 ≡ 0)
bytes_below n placed = (2 ^ 64 - 1 - n, grind (arith, nat_tests), grind (arith, nat_tests), grind (arith, nat_tests))

-- a multiple of 8 is so many slots
some_slots : (most distance : ℕ) (make : ℕ → List ℕ) → distance ≤ most → distance % 8 ≡ 0 → IsSome (option_map make (slots most distance))
some_slots most distance make low whole = by (nat_le distance most) (distance % 8 == 0) (within distance most low) (tested (distance % 8) whole)
  where
    within : (a b : ℕ) → a ≤ b → nat_le a b ≡ true
    within a b less = grind (arith, nat_tests)

    tested : (a : ℕ) → a ≡ 0 → (a == 0) ≡ true
    tested a is = grind (arith, nat_tests)

    by : (a b : Bool) → a ≡ true → b ≡ true → IsSome (option_map make (cond (a && b) (Some (distance / 8)) None))
    by true true x y = refl
    by false b x y = absurd (let none : ⊥ = cc in none)
    by true false x y = absurd (let none : ⊥ = cc in none)

-- the rule of a register
slot_written : (number : ℕ) (at : Option ℕ) → number < 64 → IsFitSlot at → IsSome (written (rule_op number (rule_of at)))
slot_written number None fits is = register_written number (Some ((0xc0 + number) ∷ [])) fits refl
slot_written number (Some n) fits is = register_written number (rule_written number (Offset (signed n))) fits (by (bytes_below n is))
  where
    Written : ℤ → Type 0
    Written offset = IsSome (rule_written number (Offset offset))

    by : (k : ℕ) × (k < 2 ^ 63) × (n ≡ 2 ^ 64 - suc k) × ((k + 1) % 8 ≡ 0) → Written (signed n)
    by is = subst Written (sym (ap (cast_signed w64) is.2 ∙ to_z-neg w64 is.0 is.1)) (some_slots (2 ^ 63) (is.0 + 1) _ (omega arith) is.3)

-- what stands where it was put
set_here : (rules : List Rule) (number : ℕ) (rule found : Rule) → slice_get (slice_set rules number rule) number ≡ Some found → found ≡ rule
set_here [] number rule found is = absurd (let none : ⊥ = cc in none)
set_here (first ∷ rules) zero rule found is = cc
set_here (first ∷ rules) (suc number) rule found is = set_here rules number rule found is

-- and elsewhere
set_other : (rules : List Rule) (number other : ℕ) (rule : Rule) → other ≢ number → slice_get (slice_set rules number rule) other ≡ slice_get rules other
set_other [] number other rule apart = refl
set_other (first ∷ rules) zero zero rule apart = absurd (apart refl)
set_other (first ∷ rules) zero (suc other) rule apart = refl
set_other (first ∷ rules) (suc number) zero rule apart = refl
set_other (first ∷ rules) (suc number) (suc other) rule apart = set_other rules number other rule (λ same. apart (ap suc same))

-- rules into which one more is put
with_written : (rules : List Rule) (number : ℕ) (rule : Rule) → IsSome (written (rule_op number rule)) → AreWritten rules → AreWritten (slice_set rules number rule)
with_written rules number rule some are other found is = by (cases_eq other number)
  where
    by : (other ≡ number) ⊎ (other ≢ number) → IsSome (written (rule_op other found))
    by (inl same) =
        let At : ℕ → Type 0 = λ n. slice_get (slice_set rules number rule) n ≡ Some found in
        let put = set_here rules number rule found (subst At same is) in
        let Of : ℕ → Type 0 = λ n. IsSome (written (rule_op n found)) in
        let With : Rule → Type 0 = λ r. IsSome (written (rule_op number r)) in
        subst Of (sym same) (subst With (sym put) some)
    by (inr apart) = are other found (sym (set_other rules number other rule apart) ∙ is)

-- without a rule
blank_written : (count number : ℕ) (rule : Rule) → slice_get (replicate count Unspecified) number ≡ Some rule → (rule ≡ Unspecified) × (number < count)
blank_written zero number rule is = absurd (let none : ⊥ = cc in none)
blank_written (suc count) zero rule is = (cc, omega arith)
blank_written (suc count) (suc number) rule is = let rest = blank_written count number rule is in (rest.0, let low : number < count = rest.1 in omega arith)

-- the rules of the common entry
common_written : AreWritten common_row.rules
common_written = with_written (replicate 64 Unspecified) 16 (Offset (negsuc 7)) refl blank
  where
    blank : AreWritten (replicate 64 Unspecified)
    blank number rule is =
        let found = blank_written 64 number rule is in
        let With : Rule → Type 0 = λ r. IsSome (written (rule_op number r)) in
        subst With (sym found.0) (slot_written number None found.1 tt)

-- the rule of one of the seven
with_slot_written : (q : ℕ) (at : Option ℕ) (rules : List Rule) → q < 7 → IsFitSlot at → AreWritten rules → AreWritten (with_slot q at rules)
with_slot_written q at rules one is are = with_written rules (dwarf_number q) (rule_of at) (slot_written (dwarf_number q) at (number_fits q one) is) are

-- the rules of a row
row_written : (row : StackRow) → IsFit row → AreWritten (whole_row row).rules
row_written row fit =
    let one = with_slot 1 row.rbx common_row.rules in
    let two = with_slot 2 row.rbp one in
    let three = with_slot 3 row.r12 two in
    let four = with_slot 4 row.r13 three in
    let five = with_slot 5 row.r14 four in
    with_slot_written 6 row.r15 five (omega arith) fit.r15 (with_slot_written 5 row.r14 four (omega arith) fit.r14
    (with_slot_written 4 row.r13 three (omega arith) fit.r13 (with_slot_written 3 row.r12 two (omega arith) fit.r12
    (with_slot_written 2 row.rbp one (omega arith) fit.rbp (with_slot_written 1 row.rbx common_row.rules (omega arith) fit.rbx common_written)))))

-- the frame address of a row can be written
frame_written : (row : StackRow) → IsFit row → IsSome (written (DefCfa (whole_row row).register (whole_row row).offset))
frame_written row fit =
    let number = dwarf_number row.cfa.register in
    let plain = 0x0c ∷ number ∷ [] in
    let factored = 0x12 ∷ number ∷ [] in
    register_written number (cfa_offset plain factored (offset_of row.cfa.distance)) (number_fits row.cfa.register fit.cfa.one)
    (offset_written plain factored row.cfa.distance fit.cfa.small fit.cfa.low)

-- what leads to a row can be written
pub have_forms : (from to : StackRow) → IsFit to → HaveForms (whole_row from) (whole_row to)
have_forms from to fit = (frame_written to fit, λ number rule is. inr (row_written to fit number rule is))
