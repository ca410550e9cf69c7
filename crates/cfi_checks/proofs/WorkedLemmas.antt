use Rattle.std.proofs.Common.{◌≡◌, ◌+◌, ◌^◌, ◌-◌, ◌%◌, ℕ, zero, suc, ◌<◌, true, Some, [], ◌∷◌, refl, arith}
use Rattle.std.proofs.lemmas.Bool.Decides.{nat_tests}
use Rattle.cfi_rows.specs.declared.rows.Rule.TheVariants.{Unspecified}
use Rattle.stack_depths.specs.Distances.{distances_along}
use Rattle.stack_facts.specs.Places.{is_saved, overlaps}
use Rattle.scfi_pass.specs.Registers.{dwarf_number}
use Rattle.cfi_checks.specs.Rows.{rule_of, row_at}
use Rattle.cfi_checks.specs.Shown.{Shows}
use Rattle.cfi_checks.specs.Worked.{rows, saved, unsaid, stands, IsShownAt, AreWorkedRows, IsWorkedFault}

-- what holds of each of the six
of_six : (P : ℕ → Type 0) → P 1 → P 2 → P 3 → P 4 → P 5 → P 6 → (r : ℕ) → is_saved r ≡ true → P r
of_six P one two three four five six zero h = cc
of_six P one two three four five six (suc zero) h = one
of_six P one two three four five six (suc (suc zero)) h = two
of_six P one two three four five six (suc (suc (suc zero))) h = three
of_six P one two three four five six (suc (suc (suc (suc zero)))) h = four
of_six P one two three four five six (suc (suc (suc (suc (suc zero))))) h = five
of_six P one two three four five six (suc (suc (suc (suc (suc (suc zero)))))) h = six
of_six P one two three four five six (suc (suc (suc (suc (suc (suc (suc n))))))) h = absurd (let l : n + 7 < 7 = grind (arith, nat_tests) in omega arith)

-- the rows of the first function
first : IsShownAt 0
unfolding overlaps
first = (
  record { register = 0; among = omega arith; counted = refl; distance = 2 ^ 64 - 8; lies = refl; reaches = refl },
  of_six (λ r. Shows (stands 0) r (rule_of (row_at saved 0) r)) refl refl refl refl refl refl,
  refl,
)

pushed : IsShownAt 1
unfolding overlaps
pushed = (
  record { register = 0; among = omega arith; counted = refl; distance = 2 ^ 64 - 16; lies = refl; reaches = refl },
  of_six (λ r. Shows (stands 1) r (rule_of (row_at saved 1) r)) refl refl refl refl refl refl,
  refl,
)

moved : IsShownAt 2
unfolding overlaps
moved = (
  record { register = 2; among = omega arith; counted = refl; distance = 2 ^ 64 - 16; lies = refl; reaches = refl },
  of_six (λ r. Shows (stands 2) r (rule_of (row_at saved 2) r)) refl refl refl refl refl refl,
  refl,
)

popped : IsShownAt 3
unfolding overlaps
popped = (
  record { register = 0; among = omega arith; counted = refl; distance = 2 ^ 64 - 8; lies = refl; reaches = refl },
  of_six (λ r. Shows (stands 3) r (rule_of (row_at saved 3) r)) refl refl refl refl refl refl,
  refl,
)

-- and where no rule says that rbp was saved
pub worked_rows : AreWorkedRows
unfolding overlaps
worked_rows = (first, pushed, moved, popped, (λ shown. cc, earlier))
  where
    earlier : (q : ℕ) → is_saved q ≡ true → q < 2 → (Shows (stands 2) q (rule_of (row_at (rows Unspecified) 2) q) → ⊥) → ⊥
    earlier zero six low hidden = cc
    earlier (suc zero) six low hidden = hidden refl
    earlier (suc (suc n)) six low hidden = absurd (omega arith)

-- no register of the second function is where the row at entry has it
unsaid_frame : (q d : ℕ) → q < 7 → 7 ≡ dwarf_number q → distances_along unsaid (0 ∷ []) q ≡ Some d → (d + 8) % 2 ^ 64 ≡ 0 → ⊥
unsaid_frame zero d low is lies reaches = let at : 2 ^ 64 - 16 ≡ d = cc in omega arith
unsaid_frame (suc zero) d low is lies reaches = absurd (omega arith)
unsaid_frame (suc (suc zero)) d low is lies reaches = absurd (omega arith)
unsaid_frame (suc (suc (suc zero))) d low is lies reaches = absurd (omega arith)
unsaid_frame (suc (suc (suc (suc zero)))) d low is lies reaches = absurd (omega arith)
unsaid_frame (suc (suc (suc (suc (suc zero))))) d low is lies reaches = absurd (omega arith)
unsaid_frame (suc (suc (suc (suc (suc (suc zero)))))) d low is lies reaches = absurd (omega arith)
unsaid_frame (suc (suc (suc (suc (suc (suc (suc n))))))) d low is lies reaches = absurd (omega arith)

pub worked_fault : IsWorkedFault
worked_fault facts shown = unsaid_frame shown.register shown.distance shown.among shown.counted shown.lies shown.reaches
