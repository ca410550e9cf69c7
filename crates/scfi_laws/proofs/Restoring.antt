-- At exits the seven registers are as at entry.
use Rattle.std.proofs.Common.{◌≡◌, ◌≢◌, ◌+◌, ◌-◌, ◌^◌, ◌<◌, ◌==◌, ℕ, ℤ, zero, suc, Bool, true, false, Option, Some, None, option_map, slice_get, refl, sym, ap, subst, ◌∙◌, arith}
use Rattle.std.proofs.lemmas.Bool.Decides.{nat_tests}
use Rattle.asm_base.specs.declared.faults.SavedRegister.{SavedRegister}
use Rattle.asm_base.specs.declared.faults.SavedRegister.TheVariants.{Rbx, Rbp, R12, R13, R14, R15}
use Rattle.asm_base.specs.declared.faults.ScfiFault.TheVariants as scfi
use Rattle.insn_effects.specs.Followed.{wrap}
use Rattle.code_functions.specs.declared.items.CodeItem.{CodeItem}
use Rattle.stack_facts.specs.Places.{is_saved}
use Rattle.stack_facts.specs.Facts.{entry}
use Rattle.scfi_pass.specs.Faults.{Situation, IsTold, at_exit}
use Rattle.scfi_pass.specs.Registers.{number_of}
use Rattle.scfi_pass.specs.Rows.{signed}
use Rattle.scfi_pass.specs.Tables.{situation}
use Rattle.scfi_laws.specs.Performing.{held}
use Rattle.scfi_laws.specs.ItemLaws.{passed, ExitsRestore}
use Rattle.scfi_laws.proofs.Elements.{element, within}
use Rattle.scfi_laws.proofs.DistanceLemmas.{walked, known_true}
use Rattle.scfi_laws.proofs.Standing.{facts_true}

-- what is not false is true
not_false : (b : Bool) → (b ≡ false → ⊥) → b ≡ true
not_false true fails = refl
not_false false fails = absurd (fails refl)

module _ (s : Situation) (exits : s.node.exits ≡ true) where
  -- rsp is at its place
  stack_restored : ((distance : Option ℤ) → IsTold s (scfi.StackNotRestored distance) → ⊥) → s.known 0 ≡ Some at_exit
  stack_restored clear = by (s.known 0) refl
    where
      fault : s.known 0 ≢ Some at_exit → ⊥
      fault other = clear (option_map signed (s.known 0)) (exits, other, refl)

      by : (o : Option ℕ) → s.known 0 ≡ o → s.known 0 ≡ Some at_exit
      by None is = absurd (fault (λ found. let none : ⊥ = cc in none))
      by (Some d) is = elim_test (d == at_exit) refl
        where
          elim_test : (b : Bool) → (d == at_exit) ≡ b → s.known 0 ≡ Some at_exit
          elim_test true same = let own : d ≡ at_exit = grind (arith, nat_tests) in is ∙ ap Some own
          elim_test false other =
              absurd (fault (λ found. let own : d ≡ at_exit = cc in let bad : (d == at_exit) ≡ true = grind (arith, nat_tests) in let none : ⊥ = cc in none))

  -- of the registers below a number each has its entry value
  abbrev AreBelow : ℕ → Type 0
  AreBelow n = (q : ℕ) → is_saved q ≡ true → q < n → s.stands (entry q) ≡ true

  -- so has the next one
  next_restored : ((r : SavedRegister) → IsTold s (scfi.RegisterNotRestored r) → ⊥) → (r : SavedRegister) → AreBelow (number_of r) → AreBelow (number_of r + 1)
  next_restored clear r below q saved low = by (q == number_of r) refl
    where
      own : s.stands (entry (number_of r)) ≡ true
      own = not_false _ (λ lost. clear r (exits, (lost, λ p kept less fails. let had = below p kept less in let none : ⊥ = cc in none)))

      by : (b : Bool) → (q == number_of r) ≡ b → s.stands (entry q) ≡ true
      by true same = let one : q ≡ number_of r = grind (arith, nat_tests) in subst (λ p. s.stands (entry p) ≡ true) (sym one) own
      by false other = below q saved (let less : q < number_of r = grind (arith, nat_tests) in less)

  -- all six have
  registers_restored : ((r : SavedRegister) → IsTold s (scfi.RegisterNotRestored r) → ⊥) → AreBelow 7
  registers_restored clear =
      let none : AreBelow 1 = λ q saved low. absurd (let fails : ⊥ = grind (arith, nat_tests) in fails) in
      next_restored clear R15 (next_restored clear R14 (next_restored clear R13 (next_restored clear R12 (next_restored clear Rbp (next_restored clear Rbx none)))))

-- rsp by its distance
top_restored : (x y : ℕ) → y < 2 ^ 64 → x ≡ wrap (wrap (y + 8) + (2 ^ 64 - 8)) → x ≡ y
top_restored x y small is = omega arith

pub exits_restore : ExitsRestore
exits_restore a start earlier now analyzed begun e function restored node there exits = λ q low. by q low
  where
    item : (x : CodeItem) × (slice_get a.items now.place ≡ Some x)
    item = element a.items now.place (let few = function.as_many in let in_nodes = within a.nodes now.place node there in omega arith)

    here : Situation
    here = situation a now.place item.0 node

    reached : a.reached now.place ≡ true
    reached = (analyzed.reached now.place).1 (passed earlier, walked a start begun earlier now e)

    stack : a.distances now.place 0 ≡ Some at_exit
    stack = stack_restored here exits (λ distance. restored.stack distance now.place item.0 node reached item.1 there)

    registers : AreBelow here exits 7
    registers = registers_restored here exits (λ register. restored.registers register now.place item.0 node reached item.1 there)

    by : (q : ℕ) → q < 7 → held now q ≡ held start q
    by zero low = top_restored (held now 0) (held start 0) (begun.range 4) (known_true a start begun analyzed earlier now e 0 at_exit stack)
    by (suc q) low = facts_true a analyzed start begun earlier now e (entry (suc q)) (registers (suc q) (let saved : is_saved (suc q) ≡ true = grind (arith, nat_tests) in saved) low)
