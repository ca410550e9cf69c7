use Rattle.std.proofs.Common.{◌≡◌, ℕ, zero, suc, ◌+◌, ◌<◌, ◌==◌, Bool, true, false, Option, Some, None, refl, sym, ap, subst, arith}
use Rattle.std.proofs.lemmas.Bool.Decides.{nat_tests}
use Rattle.asm_base.specs.declared.faults.ScfiFault.TheVariants as scfi
use Rattle.asm_base.specs.declared.faults.SavedRegister.{SavedRegister}
use Rattle.asm_base.specs.declared.faults.SavedRegister.TheVariants.{Rbx, Rbp, R12, R13, R14, R15}
use Rattle.stack_facts.specs.Places.{is_saved}
use Rattle.stack_facts.specs.Facts.{Fact, entry, IsSlotOf}
use Rattle.scfi_pass.specs.declared.rows.Cfa.{Cfa}
use Rattle.scfi_pass.specs.Registers.{number_of}
use Rattle.scfi_pass.specs.Rows.{or_else, IsRuleOf, AreRules}
use Rattle.scfi_pass.specs.declared.rows.StackRow.{StackRow}
use Rattle.scfi_pass.specs.Looking.{IsClear}
use Rattle.scfi_pass.proofs.RankLemmas.{clear_lost}
use Rattle.scfi_pass.specs.Faults.{Situation, IsLost, IsFirstOf, IsSound}

-- of the six registers a first one would have what one has
least : (P : ℕ → Type 0) → ((k : ℕ) → is_saved k ≡ true → ((q : ℕ) → is_saved q ≡ true → q < k → P q → ⊥) → P k → ⊥) → (n q : ℕ) → q < n → is_saved q ≡ true → P q → ⊥
least P step zero q h six p = absurd (omega arith)
least P step (suc n) q h six p = step q six (λ m s l. least P step n m (omega arith) s) p

-- each of the six has a name
named : (k : ℕ) → is_saved k ≡ true → (r : SavedRegister) × (number_of r ≡ k)
named k six = by_one (k == 1) refl
  where
    by_five : (b : Bool) → (k == 5) ≡ b → (k == 1) ≡ false → (k == 2) ≡ false → (k == 3) ≡ false → (k == 4) ≡ false → (r : SavedRegister) × (number_of r ≡ k)
    by_five true e a1 a2 a3 a4 = (R14, grind (arith, nat_tests))
    by_five false e a1 a2 a3 a4 = (R15, grind (arith, nat_tests))

    by_four : (b : Bool) → (k == 4) ≡ b → (k == 1) ≡ false → (k == 2) ≡ false → (k == 3) ≡ false → (r : SavedRegister) × (number_of r ≡ k)
    by_four true e a1 a2 a3 = (R13, grind (arith, nat_tests))
    by_four false e a1 a2 a3 = by_five (k == 5) refl a1 a2 a3 e

    by_three : (b : Bool) → (k == 3) ≡ b → (k == 1) ≡ false → (k == 2) ≡ false → (r : SavedRegister) × (number_of r ≡ k)
    by_three true e a1 a2 = (R12, grind (arith, nat_tests))
    by_three false e a1 a2 = by_four (k == 4) refl a1 a2 e

    by_two : (b : Bool) → (k == 2) ≡ b → (k == 1) ≡ false → (r : SavedRegister) × (number_of r ≡ k)
    by_two true e a1 = (Rbp, grind (arith, nat_tests))
    by_two false e a1 = by_three (k == 3) refl a1 e

    by_one : (b : Bool) → (k == 1) ≡ b → (r : SavedRegister) × (number_of r ≡ k)
    by_one true e = (Rbx, grind (arith, nat_tests))
    by_one false e = by_two (k == 2) refl e

-- where no fault is told, no register is lost
pub not_lost : (s : Situation) (r : ℕ) → IsSound s → is_saved r ≡ true → IsLost s.stands r → ⊥
not_lost s r sound six lost = least (IsLost s.stands) step (r + 1) r (omega arith) six lost
  where
    step : (k : ℕ) → is_saved k ≡ true → ((q : ℕ) → is_saved q ≡ true → q < k → IsLost s.stands q → ⊥) → IsLost s.stands k → ⊥
    step k here below gone =
        let x = named k here in
        let P : ℕ → Type 0 = IsFirstOf (IsLost s.stands) in
        let first : P k = (gone, below) in
        sound (scfi.RegisterLost x.0) (subst P (sym x.1) first)

-- a register has its slot, or else its entry value
pub ruled : (s : Situation) (r : ℕ) (found : Option ℕ) → IsSound s → is_saved r ≡ true → IsSlotOf s.stands r found → IsRuleOf s.stands r found
ruled s r None sound six h = (h, by_value (s.stands (entry r)) refl)
  where
    by_value : (b : Bool) → s.stands (entry r) ≡ b → b ≡ true
    by_value true e = refl
    by_value false e = absurd (not_lost s r sound six (e, h))
ruled s r (Some n) sound six h = h

-- the first one that there is
pub first_cfa : (one other : Option Cfa) (cfa : Cfa) → one ≡ Some cfa → Some cfa ≡ or_else one other
first_cfa one other cfa e = ap (λ o. or_else o other) (sym e)

-- where there is none, the other
pub next_cfa : (one other : Option Cfa) → one ≡ None → other ≡ or_else one other
next_cfa one other e = ap (λ o. or_else o other) (sym e)

-- a register that has a rule is not lost
ruled_not_lost : (stands : Fact → Bool) (r : ℕ) (n : Option ℕ) → IsRuleOf stands r n → IsLost stands r → ⊥
ruled_not_lost stands r None h lost = let a = h.1 in let b = lost.0 in cc
ruled_not_lost stands r (Some n) h lost = let a = h.0 in let b = lost.1 n in cc

-- where all six have rules, none is lost
pub rules_clear : (s : Situation) (row : StackRow) → AreRules s.stands row → IsClear s 2
rules_clear s row rules = clear_lost s (λ r told. none r told.0)
  where
    none : (r : SavedRegister) → IsLost s.stands (number_of r) → ⊥
    none Rbx lost = ruled_not_lost s.stands 1 row.rbx rules.rbx lost
    none Rbp lost = ruled_not_lost s.stands 2 row.rbp rules.rbp lost
    none R12 lost = ruled_not_lost s.stands 3 row.r12 rules.r12 lost
    none R13 lost = ruled_not_lost s.stands 4 row.r13 rules.r13 lost
    none R14 lost = ruled_not_lost s.stands 5 row.r14 rules.r14 lost
    none R15 lost = ruled_not_lost s.stands 6 row.r15 rules.r15 lost
