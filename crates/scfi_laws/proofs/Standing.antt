-- Facts are true along executions.
use Rattle.std.proofs.Common.{◌≡◌, ◌<◌, ◌==◌, ◌||◌, ◌&&◌, ℕ, Bool, true, false, List, [], ◌∷◌, Contains, Option, Some, None, slice_get, refl, sym, ap, subst, ◌∙◌, arith}
use Rattle.std.proofs.lemmas.Bool.Decides.{nat_tests}
use Rattle.insn_effects.specs.Followed.{Followed, followed_by}
use Rattle.code_functions.specs.declared.items.CodeItem.{CodeItem}
use Rattle.flow_graph.specs.Walks.{successors, IsWalk}
use Rattle.stack_depths.specs.Distances.{Distances, has_bit}
use Rattle.stack_facts.specs.declared.values.Slot.{Slot}
use Rattle.stack_facts.specs.Places.{is_saved, stored_by, saved_by, loaded_by, change_of, moves_to, loads_to, writes}
use Rattle.stack_facts.specs.Facts.{Fact, entry, slot, is_at, is_touched, loads_own, facts_after, facts_over, facts_along}
use Rattle.scfi_pass.specs.Tables.{Analyzed, IsAnalyzed}
use Rattle.x86_steps.specs.States.{State}
use Rattle.scfi_laws.specs.Performing.{held}
use Rattle.scfi_laws.specs.Executions.{frame_address, framed_word, LeavesAlone, KeepsAt, IsStart, KeptStep, KeptExecution}
use Rattle.scfi_laws.specs.ItemLaws.{passed, IsTrueOf, ExecutionsAreWalks, KnownIsTrue}
use Rattle.scfi_laws.proofs.Passing.{StoresUnless, Passes}
use Rattle.scfi_laws.proofs.DistanceLemmas.{DistancesHold, walked, step_passes, known_true}
use Rattle.scfi_laws.proofs.FactLemmas.{register_of, same_number, saved_word, loaded_word, untouched_word, slot_from_entry, slot_from_slot, slot_untouched, entry_from_slot, entry_from_entry, same_register}

-- the facts along a walk over an item that is there
over : (items : List CodeItem) (known : ℕ → Distances) (i : ℕ) (w : List ℕ) (f : Fact) (item : CodeItem) → slice_get items i ≡ Some item
    → facts_along items known (i ∷ w) f ≡ facts_after (writes (followed_by item.effect)) (change_of (followed_by item.effect) (known i)) (facts_along items known w) f
over items known i w f item there = ap (λ o. facts_over o (known i) (facts_along items known w) f) there

-- facts speak of callee-saved registers
pub about_saved : (items : List CodeItem) (known : ℕ → Distances) (w : List ℕ) (f : Fact) → facts_along items known w f ≡ true → is_saved (register_of f) ≡ true
about_saved items known [] (entry r) h = h
about_saved items known [] (slot n r) h = cc
about_saved items known (i ∷ w) f h = by (slice_get items i) h (about_saved items known w)
  where
    by : (o : Option CodeItem) → facts_over o (known i) (facts_along items known w) f ≡ true → ((g : Fact) → facts_along items known w g ≡ true → is_saved (register_of g) ≡ true)
        → is_saved (register_of f) ≡ true
    by None is before = before f is
    by (Some item) is before =
        let x = same_register (writes (followed_by item.effect)) (followed_by item.effect) (known i) (facts_along items known w) f is in
        subst (λ r. is_saved r ≡ true) x.same (before x.fact x.stands)

-- a register that is loaded is written
loaded_written : (m l b : Bool) → l ≡ true → (m || (l || b)) ≡ true
loaded_written true l b h = refl
loaded_written false l b h = ap (λ x. x || b) h

-- one that is not written is not moved, nor written in another way
unwritten : (m l b : Bool) → (m || (l || b)) ≡ false → (m ≡ false) × (b ≡ false)
unwritten true l b h = cc
unwritten false true b h = cc
unwritten false false b h = (refl, h)

module _ (a : Analyzed) (analyzed : IsAnalyzed a) (start : State) (begun : IsStart a start) where
  -- a fact that stands after an item comes from one that stood at it, if it does along each walk
  came : (i j : ℕ) (item : CodeItem) (w : List ℕ) (f g : Fact) → slice_get a.items i ≡ Some item → IsWalk a.nodes w i → Contains (successors a.nodes i) j → a.facts j f ≡ true
      → ((stood : Fact → Bool) → facts_after (writes (followed_by item.effect)) (change_of (followed_by item.effect) (a.distances i)) stood f ≡ true → stood g ≡ true) → a.facts i g ≡ true
  came i j item w f g there walk next stands from =
      (analyzed.facts i g).1 ((w, walk), λ v h. from (facts_along a.items a.distances v) (sym (over a.items a.distances i v f item there) ∙ ((analyzed.facts j f).0 stands).1 (i ∷ v) (next, h)))

  -- a word that no fixed store touches stays
  pub word_stays : (e : Followed) (c : Bool) (s t : State) (n : ℕ) → DistancesHold (frame_address start) (a.distances s.place) s → StoresUnless c e.stores s t → KeepsAt c e a start s t
      → is_touched (stored_by e.stores (a.distances s.place)) n ≡ false → (LeavesAlone (a.facts s.place) start s t → framed_word start t n ≡ framed_word start s n)
      → (LeavesAlone (a.facts t.place) start s t → framed_word start t n ≡ framed_word start s n) → framed_word start t n ≡ framed_word start s n
  word_stays e true s t n holds stores keeps untouched here there = there keeps.memory
  word_stays e false s t n holds stores keeps untouched here there =
      untouched_word e.stores (a.distances s.place) (a.facts s.place) start s t (frame_address start) n holds stores keeps untouched here

  module _ (s t : State) (step : KeptStep a start s t) (w : List ℕ) (walk : IsWalk a.nodes w s.place) (holds : DistancesHold (frame_address start) (a.distances s.place) s)
      (before : (f : Fact) → a.facts s.place f ≡ true → IsTrueOf start s f) where
    abbrev e : Followed
    e = followed_by step.item.effect

    abbrev known : Distances
    known = a.distances s.place

    pass : Passes e s t
    pass = step_passes a start begun s t step

    -- the facts along the walk to the next item
    along : (f : Fact) → a.facts t.place f ≡ true → facts_after (writes e) (change_of e known) (facts_along a.items a.distances w) f ≡ true
    along f stands = sym (over a.items a.distances s.place w f step.item step.there) ∙ ((analyzed.facts t.place f).0 stands).1 (s.place ∷ w) (step.next, walk)

    -- where it stood at the item
    from : (f g : Fact) → a.facts t.place f ≡ true → ((stood : Fact → Bool) → facts_after (writes e) (change_of e known) stood f ≡ true → stood g ≡ true) → a.facts s.place g ≡ true
    from f g stands back = came s.place t.place step.item w f g step.there walk step.next stands back

    slot_true : (n r : ℕ) → a.facts t.place (slot n r) ≡ true → (b : Bool) → is_at (saved_by e.stores known) n r ≡ b → IsTrueOf start t (slot n r)
    slot_true n r stands true is =
        let saved = saved_word e.stores (a.distances s.place) (frame_address start) s t n r holds pass.saves is in
        saved.0 ∙ before (entry r) (from (slot n r) (entry r) stands (λ stood. slot_from_entry (writes e) e known stood n r saved.1))
    slot_true n r stands false is =
        let here = from (slot n r) (slot n r) stands (λ stood. slot_from_slot (writes e) e known stood n r is) in
        let untouched = slot_untouched (writes e) e known (facts_along a.items a.distances w) n r is (along (slot n r) stands) in
        word_stays e e.calls s t n holds pass.stores step.keeps untouched (λ alone. alone.slots n r here) (λ alone. alone.slots n r stands) ∙ before (slot n r) here

    entry_kept : (r : ℕ) → r < 7 → a.facts t.place (entry r) ≡ true → ((stood : Fact → Bool) → loads_own (loaded_by e.loads known) stood r ≡ false) → IsTrueOf start t (entry r)
    entry_kept r low stands unloaded =
        let here = from (entry r) (entry r) stands (λ stood h. (entry_from_entry (writes e) e known stood r (unloaded stood) h).0) in
        let still = (entry_from_entry (writes e) e known (facts_along a.items a.distances w) r (unloaded (facts_along a.items a.distances w)) (along (entry r) stands)).1 in
        let two = unwritten (moves_to e.moves r) (loads_to e.loads r) (has_bit e.written r) still in
        pass.kept r low two.0 two.1 ∙ before (entry r) here

    entry_loaded : (r : ℕ) → r < 7 → a.facts t.place (entry r) ≡ true → (o : Option Slot) → loaded_by e.loads known ≡ o → IsTrueOf start t (entry r)
    entry_loaded r low stands None is = entry_kept r low stands (λ stood. ap (λ o. loads_own o stood r) is)
    entry_loaded r low stands (Some x) is = by (x.register == r) refl
      where
        by : (b : Bool) → (x.register == r) ≡ b → IsTrueOf start t (entry r)
        by true m =
            let same : x.register ≡ r = same_number x.register r m in
            let loaded = loaded_word e.loads (a.distances s.place) (frame_address start) s t x holds pass.loads is in
            let written : writes e r ≡ true = loaded_written (moves_to e.moves r) (loads_to e.loads r) (has_bit e.written r) (ap (loads_to e.loads) (sym same) ∙ loaded.1) in
            let here = from (entry r) (slot x.distance r) stands (λ stood. entry_from_slot (writes e) e known stood x r is same written) in
            ap (held t) (sym same) ∙ loaded.0 ∙ before (slot x.distance r) here
        by false m = entry_kept r low stands (λ stood. ap (λ o. loads_own o stood r) is ∙ ap (λ b. b && stood (slot x.distance r)) m)

    -- one step carries what stands
    pub step_true : (f : Fact) → a.facts t.place f ≡ true → IsTrueOf start t f
    step_true (entry r) stands =
        let saved = about_saved a.items a.distances (s.place ∷ w) (entry r) (((analyzed.facts t.place (entry r)).0 stands).1 (s.place ∷ w) (step.next, walk)) in
        entry_loaded r (grind (arith, nat_tests)) stands (loaded_by e.loads known) refl
    step_true (slot n r) stands = slot_true n r stands (is_at (saved_by e.stores known) n r) refl

  -- what stands at the last item is true of the last state
  pub facts_true : (earlier : List State) (now : State) → KeptExecution a start earlier now → (f : Fact) → a.facts now.place f ≡ true → IsTrueOf start now f
  facts_true [] now e (entry r) stands = ap (λ (s : State). held s r) e
  facts_true [] now e (slot n r) stands =
      let none = ((analyzed.facts now.place (slot n r)).0 stands).1 [] (ap (λ (s : State). s.place) e ∙ begun.place, begun.some) in cc
  facts_true (s ∷ earlier) now e f stands =
      step_true s now e.1 (passed earlier) (walked a start begun earlier s e.0) (known_true a start begun analyzed earlier s e.0) (facts_true earlier s e.0) f stands

pub executions_are_walks : ExecutionsAreWalks
executions_are_walks a start earlier now analyzed begun e = walked a start begun earlier now e

pub known_is_true : KnownIsTrue
known_is_true a start earlier now analyzed begun e = record {
  distances = known_true a start begun analyzed earlier now e;
  facts = facts_true a analyzed start begun earlier now e;
}
