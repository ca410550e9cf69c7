-- Distances are true along executions.
use Rattle.std.proofs.Common.{◌≡◌, ℕ, ◌+◌, ◌-◌, ◌^◌, ◌<◌, ◌==◌, nat_lt, Bool, true, false, cond, List, [], ◌∷◌, Option, Some, None, slice_get, refl, sym, ap, subst, arith, ◌∙◌}
use Rattle.std.proofs.lemmas.Bool.Decides.{nat_tests}
use Rattle.insn_effects.specs.Followed.{wrap, FollowedMove, Followed, followed_by}
use Rattle.flow_graph.specs.Walks.{IsWalk}
use Rattle.stack_depths.specs.Distances.{Distances, has_bit, unless_written, sum_of, moved_by, distance_after, distance_over, entry_distance, distances_along}
use Rattle.stack_facts.specs.Places.{moves_to}
use Rattle.scfi_pass.specs.Tables.{Analyzed, IsAnalyzed}
use Rattle.x86_steps.specs.States.{State, IsRanged}
use Rattle.scfi_laws.specs.Performing.{held, PerformsMove}
use Rattle.scfi_laws.specs.Executions.{frame_address, IsStart, KeptStep, KeptExecution}
use Rattle.scfi_laws.specs.ItemLaws.{passed}
use Rattle.scfi_laws.proofs.Passing.{Passes, passes}

-- what distances say of a state
abbrev pub DistancesHold : (frame : ℕ) → Distances → State → Type 0
DistancesHold frame known s = (q k : ℕ) → known q ≡ Some k → held s q ≡ wrap (frame + k)

-- a number more
added : (frame d add x : ℕ) → x ≡ wrap (frame + d) → wrap (x + add) ≡ wrap (frame + wrap (d + add))
added frame d add x h = omega arith

-- what is there is one
same_there : (k l : ℕ) → Some k ≡ Some l → k ≡ l
same_there k l e = cc

sum_true : (frame x y add k : ℕ) (d : Option ℕ) → ((l : ℕ) → d ≡ Some l → x ≡ wrap (frame + l)) → y ≡ wrap (x + add) → sum_of d add ≡ Some k → y ≡ wrap (frame + k)
sum_true frame x y add k None holds moves is = absurd (let none : ⊥ = cc in none)
sum_true frame x y add k (Some d) holds moves is =
    let more : wrap (d + add) ≡ k = same_there _ _ is in
    moves ∙ added frame d add x (holds d refl) ∙ ap (λ n. wrap (frame + n)) more

unless_true : (written : Bool) (frame x y k : ℕ) (d : Option ℕ) → ((l : ℕ) → d ≡ Some l → x ≡ wrap (frame + l)) → (written ≡ false → y ≡ x) → unless_written written d ≡ Some k → y ≡ wrap (frame + k)
unless_true true frame x y k d holds kept is = absurd (let none : ⊥ = cc in none)
unless_true false frame x y k d holds kept is = kept refl ∙ holds k is

moved_true : (m : Option FollowedMove) (written : Bool) (frame : ℕ) (known : Distances) (q k : ℕ) (s t : State) → DistancesHold frame known s → PerformsMove m s t
    → (moves_to m q ≡ false → written ≡ false → held t q ≡ held s q) → moved_by m written known q ≡ Some k → held t q ≡ wrap (frame + k)
moved_true None written frame known q k s t holds moves kept is = unless_true written frame (held s q) (held t q) k (known q) (holds q) (kept refl) is
moved_true (Some m) written frame known q k s t holds moves kept is = by (m.to == q) refl is
  where
    by : (b : Bool) → (m.to == q) ≡ b → cond b (sum_of (known m.base) m.add) (unless_written written (known q)) ≡ Some k → held t q ≡ wrap (frame + k)
    by true same found =
        let own : m.to ≡ q = grind (arith, nat_tests) in
        ap (held t) (sym own) ∙ sum_true frame (held s m.base) (held t m.to) m.add k (known m.base) (holds m.base) moves found
    by false other found = unless_true written frame (held s q) (held t q) k (known q) (holds q) (kept other) found

-- a step of an item
pub distance_step : (e : Followed) (frame : ℕ) (known : Distances) (q k : ℕ) (s t : State) → q < 7 → DistancesHold frame known s → Passes e s t
    → distance_after e known q ≡ Some k → held t q ≡ wrap (frame + k)
distance_step e frame known q k s t low holds pass is = moved_true e.moves (has_bit e.written q) frame known q k s t holds pass.moves (pass.kept q low) is

-- at entry
entry_true : (start : State) → IsRanged start → DistancesHold (frame_address start) entry_distance start
entry_true start range q k is = by (q == 0) refl is
  where
    by : (b : Bool) → (q == 0) ≡ b → cond b (Some (2 ^ 64 - 8)) None ≡ Some k → held start q ≡ wrap (frame_address start + k)
    by true same found =
        let first : q ≡ 0 = grind (arith, nat_tests) in
        let number : 2 ^ 64 - 8 ≡ k = same_there _ _ found in
        let small = range 4 in
        let there : start.registers 4 ≡ wrap (frame_address start + (2 ^ 64 - 8)) = omega arith in
        ap (held start) first ∙ there ∙ ap (λ n. wrap (frame_address start + n)) number
    by false other found = absurd (let none : ⊥ = cc in none)

module _ (a : Analyzed) (start : State) (begun : IsStart a start) where
  -- registers hold numbers of 64 bits
  pub ranged : (earlier : List State) (now : State) → KeptExecution a start earlier now → IsRanged now
  ranged [] now e = subst IsRanged (sym e) begun.range
  ranged (s ∷ earlier) now e = e.1.range

  -- the items that are passed are a walk
  pub walked : (earlier : List State) (now : State) → KeptExecution a start earlier now → IsWalk a.nodes (passed earlier) now.place
  walked [] now e = (ap (λ (s : State). s.place) e ∙ begun.place, begun.some)
  walked (s ∷ earlier) now e = (e.1.next, walked earlier s e.0)

  -- what a step does
  pub step_passes : (s t : State) (step : KeptStep a start s t) → Passes (followed_by step.item.effect) s t
  step_passes s t step = passes (followed_by step.item.effect).calls step.item.effect a start s t refl step.performs step.keeps

  -- a step carries distances along its walk
  along : (earlier : List State) (s t : State) → KeptStep a start s t → DistancesHold (frame_address start) (distances_along a.items (passed earlier)) s
      → DistancesHold (frame_address start) (distances_along a.items (s.place ∷ passed earlier)) t
  along earlier s t step before q k is = by (nat_lt q 7) refl is
    where
      by : (b : Bool) → nat_lt q 7 ≡ b → cond b (distance_over (slice_get a.items s.place) (distances_along a.items (passed earlier)) q) None ≡ Some k → held t q ≡ wrap (frame_address start + k)
      by true low found =
          distance_step (followed_by step.item.effect) (frame_address start) (distances_along a.items (passed earlier)) q k s t (grind (arith, nat_tests)) before (step_passes s t step)
          (ap (λ o. distance_over o (distances_along a.items (passed earlier)) q) (sym step.there) ∙ found)
      by false high found = absurd (let none : ⊥ = cc in none)

  -- the distances of the walk hold
  pub distances_true : (earlier : List State) (now : State) → KeptExecution a start earlier now → DistancesHold (frame_address start) (distances_along a.items (passed earlier)) now
  distances_true [] now e = subst (DistancesHold (frame_address start) entry_distance) (sym e) (entry_true start begun.range)
  distances_true (s ∷ earlier) now e = along earlier s now e.1 (distances_true earlier s e.0)

  -- so do those that are known
  pub known_true : IsAnalyzed a → (earlier : List State) (now : State) → KeptExecution a start earlier now → DistancesHold (frame_address start) (a.distances now.place) now
  known_true analyzed earlier now e q k is = distances_true earlier now e q k (((analyzed.distances now.place q k).0 is).1 (passed earlier) (walked earlier now e))
