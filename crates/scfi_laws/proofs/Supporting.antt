-- The rows that synthesis gives are supported.
use Rattle.std.proofs.Common.{◌≡◌, ◌+◌, ◌^◌, ◌<◌, ◌==◌, ◌&&◌, ◌||◌, ◌⊎◌, ℕ, Bool, true, false, cond, Option, Some, None, List, [], ◌∷◌, slice_get, refl, sym, ap, subst, inl, inr, ◌∙◌, arith, w64}
use Rattle.std.proofs.lemmas.Int.{of_z-to_z}
use Rattle.std.proofs.lemmas.Bool.Decides.{nat_tests}
use Rattle.insn_effects.specs.Followed.{wrap, FollowedStore, followed_by}
use Rattle.code_functions.specs.declared.items.CodeItem.{CodeItem}
use Rattle.stack_depths.specs.Distances.{Distances}
use Rattle.stack_facts.specs.Places.{gap, fixed, saved_at, saved_by, change_of, is_saved, is_slot_place}
use Rattle.stack_facts.specs.Facts.{Fact, slot, is_at, facts_over, facts_along}
use Rattle.scfi_pass.specs.declared.rows.Cfa.{Cfa}
use Rattle.scfi_pass.specs.Registers.{dwarf_number}
use Rattle.scfi_pass.specs.Rows.{low_by, known_by, or_else, other_cfa, stack_cfa, cfa_of, at_most_zero, IsRuleOf, signed, rule_of, whole_row}
use Rattle.scfi_pass.specs.Tables.{Analyzed, IsAnalyzed}
use Rattle.scfi_laws.specs.Recovering.{modular, rule_in, Supports}
use Rattle.scfi_laws.specs.ItemLaws.{RowsAreSupported}
use Rattle.scfi_laws.proofs.FactLemmas.{both, same_number}
use Rattle.scfi_laws.proofs.Numbers.{each_of_seven}

-- a signed number is the number again modulo 2 ^ 64
unsigned : (n : ℕ) → n < 2 ^ 64 → modular (signed n) ≡ n
unsigned n small = of_z-to_z w64 n small

-- a register of the seven and its distance are known
record IsKnown (known : Distances) (cfa : Cfa) : Type 0 where
  among : cfa.register < 7
  lies : known cfa.register ≡ Some cfa.distance

module _ (known : Distances) (cfa : Cfa) where
  some_known : (r : ℕ) → r < 7 → known_by r (known r) ≡ Some cfa → IsKnown known cfa
  some_known r low = by (known r) refl
    where
      by : (o : Option ℕ) → known r ≡ o → known_by r o ≡ Some cfa → IsKnown known cfa
      by None is found = absurd (let none : ⊥ = cc in none)
      by (Some d) is found =
          let own : r ≡ cfa.register = cc in
          let far : d ≡ cfa.distance = cc in
          record { among = subst (λ q. q < 7) own low; lies = ap known (sym own) ∙ is ∙ ap Some far }

  low_known : (r : ℕ) → r < 7 → low_by r (known r) ≡ Some cfa → IsKnown known cfa
  low_known r low = by (known r) refl
    where
      by : (o : Option ℕ) → known r ≡ o → low_by r o ≡ Some cfa → IsKnown known cfa
      by None is found = absurd (let none : ⊥ = cc in none)
      by (Some d) is found = test (at_most_zero d) found
        where
          test : (b : Bool) → cond b (Some (record { register = r; distance = d })) None ≡ Some cfa → IsKnown known cfa
          test true at =
              let own : r ≡ cfa.register = cc in
              let far : d ≡ cfa.distance = cc in
              record { among = subst (λ q. q < 7) own low; lies = ap known (sym own) ∙ is ∙ ap Some far }
          test false at = absurd (let none : ⊥ = cc in none)

  or_known : (one other : Option Cfa) → (one ≡ Some cfa → IsKnown known cfa) → (other ≡ Some cfa → IsKnown known cfa) → or_else one other ≡ Some cfa → IsKnown known cfa
  or_known None other first second is = second is
  or_known (Some c) other first second is = first is

  cfa_known : cfa_of known ≡ Some cfa → IsKnown known cfa
  cfa_known is =
      or_known (low_by 2 (known 2)) (stack_cfa known) (low_known 2 (omega arith))
      (or_known (known_by 0 (known 0)) (other_cfa known) (some_known 0 (omega arith))
      (or_known (low_by 1 (known 1)) (or_else (low_by 3 (known 3)) (or_else (low_by 4 (known 4)) (or_else (low_by 5 (known 5)) (low_by 6 (known 6))))) (low_known 1 (omega arith))
      (or_known (low_by 3 (known 3)) (or_else (low_by 4 (known 4)) (or_else (low_by 5 (known 5)) (low_by 6 (known 6)))) (low_known 3 (omega arith))
      (or_known (low_by 4 (known 4)) (or_else (low_by 5 (known 5)) (low_by 6 (known 6))) (low_known 4 (omega arith))
      (or_known (low_by 5 (known 5)) (low_by 6 (known 6)) (low_known 5 (omega arith)) (low_known 6 (omega arith))))))) is

-- a slot that stands was made, or stood
carried : (made own stood kept left risen : Bool) → ((((made && own) || (stood && kept)) && left) && risen) ≡ true → (made ≡ true) ⊎ (stood ≡ true)
carried true own stood kept left risen h = inl refl
carried false own true kept left risen h = inr refl
carried false own false kept left risen h = cc

-- one that is made lies below 2 ^ 64
made_small : (stores : Option FollowedStore) (known : Distances) (n r : ℕ) → is_at (saved_by stores known) n r ≡ true → n < 2 ^ 64
made_small None known n r h = absurd (let none : ⊥ = cc in none)
made_small (Some s) known n r h = by (fixed known s.base s.displacement) h
  where
    by : (o : Option ℕ) → is_at (saved_at s.register s.size o) n r ≡ true → n < 2 ^ 64
    by None is = absurd (let none : ⊥ = cc in none)
    by (Some m) is = test (is_saved s.register && (s.size == 8 && is_slot_place m)) refl is
      where
        test : (b : Bool) → (is_saved s.register && (s.size == 8 && is_slot_place m)) ≡ b → is_at (cond b (Some (record { distance = m; register = s.register })) None) n r ≡ true → n < 2 ^ 64
        test false may at = absurd (let none : ⊥ = cc in none)
        test true may at =
            let same = same_number m n (both (m == n) (s.register == r) at).0 in
            let place = (both (s.size == 8) (is_slot_place m) (both (is_saved s.register) (s.size == 8 && is_slot_place m) may).1).1 in
            let small : m < 2 ^ 64 = grind (arith, nat_tests) in
            subst (λ x. x < 2 ^ 64) same small

-- so does each that a walk carries
along_small : (items : List CodeItem) (known : ℕ → Distances) (w : List ℕ) (n r : ℕ) → facts_along items known w (slot n r) ≡ true → n < 2 ^ 64
along_small items known [] n r h = absurd (let none : ⊥ = cc in none)
along_small items known (i ∷ w) n r h = by (slice_get items i) h (along_small items known w n r)
  where
    by : (o : Option CodeItem) → facts_over o (known i) (facts_along items known w) (slot n r) ≡ true → (facts_along items known w (slot n r) ≡ true → n < 2 ^ 64) → n < 2 ^ 64
    by None is before = before is
    by (Some item) is before = either (carried _ _ _ _ _ _ is)
      where
        either : (is_at (change_of (followed_by item.effect) (known i)).saved n r ≡ true) ⊎ (facts_along items known w (slot n r) ≡ true) → n < 2 ^ 64
        either (inl made) = made_small (followed_by item.effect).stores (known i) n r made
        either (inr had) = before had

-- and each that stands
slot_small : (a : Analyzed) → IsAnalyzed a → (j n r : ℕ) → a.facts j (slot n r) ≡ true → n < 2 ^ 64
slot_small a analyzed j n r is =
    let walks = (analyzed.facts j (slot n r)).0 is in
    along_small a.items a.distances walks.0.0 n r (walks.1 walks.0.0 walks.0.1)

-- a rule of a register says what stands
rule_supported : (stands : Fact → Bool) → ((n r : ℕ) → stands (slot n r) ≡ true → n < 2 ^ 64) → (r : ℕ) (o : Option ℕ) → IsRuleOf stands r o → Supports stands r (rule_of o)
rule_supported stands small r None h = h.1
rule_supported stands small r (Some n) h = subst (λ m. stands (slot m r) ≡ true) (sym (unsigned n (small n r h.0))) h.0

-- the gap to the frame address
gap_small : (d : ℕ) → gap d 0 < 2 ^ 64
gap_small d = omega arith

gap_closes : (d : ℕ) → wrap (d + gap d 0) ≡ 0
gap_closes d = omega arith

pub rows_are_supported : RowsAreSupported
rows_are_supported a j row analyzed is =
    let known = cfa_known (a.distances j) row.cfa is.cfa in
    let small = slot_small a analyzed j in
    let rule = rule_supported (a.facts j) small in
    record {
      register = row.cfa.register;
      among = known.among;
      counted = refl;
      distance = row.cfa.distance;
      lies = known.lies;
      reaches = ap (λ n. wrap (row.cfa.distance + n)) (unsigned (gap row.cfa.distance 0) (gap_small row.cfa.distance)) ∙ gap_closes row.cfa.distance;
      return_rule = refl;
      rules = λ r saved. each_of_seven (λ q. is_saved q ≡ true → Supports (a.facts j) q (rule_in (whole_row row) (dwarf_number q))) (λ none. absurd (let fails : ⊥ = cc in fails))
          (λ _. rule 1 row.rbx is.rbx) (λ _. rule 2 row.rbp is.rbp) (λ _. rule 3 row.r12 is.r12) (λ _. rule 4 row.r13 is.r13) (λ _. rule 5 row.r14 is.r14) (λ _. rule 6 row.r15 is.r15)
          r (grind (arith, nat_tests)) saved;
    }
