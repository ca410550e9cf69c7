-- What is known is true, and the return address stands, along executions over bytes.
use Rattle.std.proofs.Common.{◌≡◌, ◌+◌, ◌-◌, ◌^◌, ◌<◌, ◌==◌, ℕ, nat_lt, Bool, true, false, cond, List, [], ◌∷◌, Some, None, slice_get, refl, sym, subst, ◌∙◌, arith}
use Rattle.std.proofs.lemmas.Bool.Decides.{nat_tests}
use Rattle.stack_depths.specs.Distances.{distance_over, distances_along}
use Rattle.stack_facts.specs.Places.{is_saved}
use Rattle.stack_facts.specs.Facts.{Fact, entry, slot}
use Rattle.scfi_pass.specs.Faults.{at_exit}
use Rattle.scfi_pass.specs.Tables.{Analyzed, IsAnalyzed}
use Rattle.x86_steps.specs.States.{State}
use Rattle.scfi_laws.specs.Performing.{SameFollowed}
use Rattle.scfi_laws.specs.Executions.{frame_address}
use Rattle.scfi_laws.specs.ItemLaws.{IsTrueOf, IsTrueHere}
use Rattle.scfi_laws.specs.ByteExecutions.{at}
use Rattle.scfi_laws.specs.ByteLaws.{KnownIsTrueInBytes, ReturnAddressStandsInBytes}
use Rattle.scfi_laws.proofs.Words.{same_memory}
use Rattle.scfi_laws.proofs.Standing.{about_saved, known_is_true}
use Rattle.scfi_laws.proofs.Returning.{return_address_stands}
use Rattle.scfi_laws.proofs.Rising.{one_holds}
use Rattle.scfi_laws.proofs.Joining.{begins, bytes_are_items}

-- a register whose distance a walk gives is one of the seven
along_low : (a : Analyzed) (w : List ℕ) (q k : ℕ) → distances_along a.items w q ≡ Some k → q < 7
along_low a [] q k is = by (q == 0) refl is
  where
    by : (b : Bool) → (q == 0) ≡ b → cond b (Some (2 ^ 64 - 8)) None ≡ Some k → q < 7
    by true same found = grind (arith, nat_tests)
    by false other found = absurd (let none : ⊥ = cc in none)
along_low a (i ∷ w) q k is = by (nat_lt q 7) refl is
  where
    by : (b : Bool) → nat_lt q 7 ≡ b → cond b (distance_over (slice_get a.items i) (distances_along a.items w) q) None ≡ Some k → q < 7
    by true low found = grind (arith, nat_tests)
    by false high found = absurd (let none : ⊥ = cc in none)

-- so is each whose distance is known
known_low : (a : Analyzed) → IsAnalyzed a → (j q k : ℕ) → a.distances j q ≡ Some k → q < 7
known_low a analyzed j q k is =
    let walks = (analyzed.distances j q k).0 is in
    along_low a walks.0.0 q k (walks.1 walks.0.0 walks.0.1)

-- and each that has its entry value
stands_low : (a : Analyzed) → IsAnalyzed a → (j r : ℕ) → a.facts j (entry r) ≡ true → r < 7
stands_low a analyzed j r is =
    let walks = (analyzed.facts j (entry r)).0 is in
    let saved : is_saved r ≡ true = about_saved a.items a.distances walks.0.0 (entry r) (walks.1 walks.0.0 walks.0.1) in
    grind (arith, nat_tests)

-- what is true of a state is true of one with the same registers and memory
module _ (a : Analyzed) (analyzed : IsAnalyzed a) (start core now : State) (i : ℕ) (same : SameFollowed core now) where
  fact_true : (f : Fact) → a.facts i f ≡ true → IsTrueOf (at 0 start) (at i core) f → IsTrueOf start (at i now) f
  fact_true (entry r) is h = same.registers r (stands_low a analyzed i r is) ∙ h
  fact_true (slot n r) is h = same_memory core.memory now.memory (frame_address start + n) same.memory ∙ h

  true_there : IsTrueHere a (at 0 start) (at i core) → IsTrueHere a start (at i now)
  true_there h = record {
    distances = λ q k is. same.registers q (known_low a analyzed i q k is) ∙ h.distances q k is;
    facts = λ f is. fact_true f is (h.facts f is);
  }

pub known_is_true_in_bytes : KnownIsTrueInBytes
known_is_true_in_bytes a kinds starts code start earlier now function traced laid at_entry e i holds =
    let s = bytes_are_items a kinds starts code start earlier now function traced laid at_entry e in
    let begun = begins a starts start function at_entry in
    let one : i ≡ s.number = one_holds a kinds starts code laid s.number i now.place s.holds holds in
    let there = known_is_true a (at 0 start) s.earlier (at s.number s.core) function.analyzed begun s.execution in
    subst (λ k. IsTrueHere a start (at k now)) (sym one) (true_there a function.analyzed start s.core now s.number s.same there)

pub return_address_stands_in_bytes : ReturnAddressStandsInBytes
return_address_stands_in_bytes a kinds starts code start earlier now function traced laid at_entry e keeps =
    let s = bytes_are_items a kinds starts code start earlier now function traced laid at_entry e in
    let begun = begins a starts start function at_entry in
    let there = return_address_stands a (at 0 start) s.earlier (at s.number s.core) function.analyzed begun s.execution keeps in
    same_memory s.core.memory now.memory (frame_address start + at_exit) s.same.memory ∙ there
