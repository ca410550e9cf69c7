use Rattle.std.proofs.Common.{◌≡◌, ℕ, ◌+◌, ◌-◌, ◌*◌, ◌^◌, ◌<◌, ◌≤◌, ◌≢◌, ◌⊎◌, ◌&&◌, inl, inr, nat_lt, Bool, true, false, Some, None, List, length, get_or, refl, sym, ap, ◌∙◌, arith}
use Rattle.std.proofs.lemmas.Bool.{cases_eq, cases_lt}
use Rattle.std.proofs.lemmas.Bool.Decides.{nat_tests}
use Rattle.number_sets.specs.Trees.{IsLast}
use Rattle.stack_facts.specs.declared.values.Slot.{Slot}
use Rattle.stack_facts.specs.Places.{below, is_saved, is_slot_place}
use Rattle.stack_facts.specs.Facts.{slot, IsSlotOf}
use Rattle.stack_facts.specs.Sets.{place_of, slot_at, holds_in}
use Rattle.stack_facts.specs.Ranks.{rank_at, rank_of, IsRanked, IsCountBefore}
use Rattle.stack_facts.proofs.SlotLemmas.{found_there, stands_there}
use Rattle.stack_facts.proofs.FactLemmas.{not_there}
use Rattle.stack_facts.proofs.BestLemmas.{found_fact}
use Rattle.stack_facts.proofs.RankLemmas.{ranked_plain}
use Rattle.stack_facts.proofs.RangeLemmas.{placed_small}

-- places of slots are in the order of their distances
not_lower : (n m : ℕ) → is_slot_place n ≡ true → is_slot_place m ≡ true → m ≤ n → below n m ≡ false
not_lower n m h g l = grind (arith, nat_tests)

-- a slot that comes before another is not of a greater rank
rank_within : (slots : List Slot) (i j : ℕ) → IsRanked slots → i ≤ j → j < length slots → rank_of (slot_at slots i) ≤ rank_of (slot_at slots j)
rank_within slots i j ranked l h = by_place (cases_eq i j)
  where
    by_place : (i ≡ j) ⊎ (i ≡ j → ⊥) → rank_of (slot_at slots i) ≤ rank_of (slot_at slots j)
    by_place (inl e) = let same : rank_of (slot_at slots i) ≡ rank_of (slot_at slots j) = ap (λ k. rank_of (slot_at slots k)) e in omega arith
    by_place (inr ne) = let n : i ≢ j = ne in let r = ranked.rising i j (omega arith) h in omega arith

-- slots of a register stand between two counts
between : (slots : List Slot) (n r first past : ℕ) → IsRanked slots → IsCountBefore slots (rank_at 0 r) first → IsCountBefore slots (rank_at 0 (r + 1)) past → place_of slots n r < length slots
    → (first ≤ place_of slots n r) × (place_of slots n r < past)
between slots n r first past ranked a b h = (low (cases_lt k first), high (cases_lt k past))
  where
    k : ℕ
    k = place_of slots n r

    rank : rank_of (slot_at slots k) ≡ r * 2 ^ 64 + n
    rank = let f = found_there slots n r h in let d = f.0 in let q = f.1 in omega arith

    small : n < 2 ^ 64
    small = let f = found_there slots n r h in let d = f.0 in let s = placed_small (slot_at slots k).distance (ranked.may k h).1 in omega arith

    low : (k < first) ⊎ (first ≤ k) → first ≤ k
    low (inr l) = l
    low (inl l) = let s = a.before k l in let e = rank in absurd (omega arith)

    high : (k < past) ⊎ (past ≤ k) → k < past
    high (inl l) = l
    high (inr l) = let s = b.behind k l h in let e = rank in let t = small in absurd (omega arith)

-- and all between them are of that register
own_register : (slots : List Slot) (r first past k : ℕ) → IsRanked slots → IsCountBefore slots (rank_at 0 r) first → IsCountBefore slots (rank_at 0 (r + 1)) past → first ≤ k → k < past → k < length slots
    → (slot_at slots k).register ≡ r
own_register slots r first past k ranked a b l s h =
    let small = placed_small (slot_at slots k).distance (ranked.may k h).1 in
    let x = a.behind k l h in
    let y = b.before k s in
    omega arith

-- no slot of the register stands
pub last_none : (slots : List Slot) (bits : List Bool) (r first past : ℕ) → IsRanked slots → IsCountBefore slots (rank_at 0 r) first → IsCountBefore slots (rank_at 0 (r + 1)) past
    → IsLast (λ k. get_or bits k false) (6 + first) (6 + past) None → IsSlotOf (holds_in slots bits) r None
last_none slots bits r first past ranked a b none = λ n. by_test n (nat_lt (place_of slots n r) (length slots)) refl
  where
    by_test : (n : ℕ) (t : Bool) → nat_lt (place_of slots n r) (length slots) ≡ t → (nat_lt (place_of slots n r) (length slots) && get_or bits (6 + place_of slots n r) false) ≡ false
    by_test n true e =
        let h : place_of slots n r < length slots = grind (arith, nat_tests) in
        let t = between slots n r first past ranked a b h in
        let low = t.0 in
        let high = t.1 in
        ap (λ x. x && get_or bits (6 + place_of slots n r) false) e ∙ none (6 + place_of slots n r) (omega arith) (omega arith)
    by_test n false e = ap (λ x. x && get_or bits (6 + place_of slots n r) false) e

-- the last one that stands has the greatest distance
pub last_some : (slots : List Slot) (bits : List Bool) (r first past k : ℕ) → IsRanked slots → IsCountBefore slots (rank_at 0 r) first → IsCountBefore slots (rank_at 0 (r + 1)) past
    → IsLast (λ j. get_or bits j false) (6 + first) (6 + past) (Some k) → IsSlotOf (holds_in slots bits) r (Some (slot_at slots (k - 6)).distance)
last_some slots bits r first past k ranked a b (low, high, is, last) = (stands, greatest)
  where
    at : ℕ
    at = k - 6

    back : 6 + at ≡ k
    back = omega arith

    inside : at < length slots
    inside = let w = b.within in omega arith

    own : (slot_at slots at).register ≡ r
    own = own_register slots r first past at ranked a b (omega arith) (omega arith) inside

    stands : holds_in slots bits (slot (slot_at slots at).distance r) ≡ true
    stands =
        ap (λ q. holds_in slots bits (slot (slot_at slots at).distance q)) (sym own)
        ∙ sym (stands_there slots bits at (ranked_plain slots ranked) inside)
        ∙ ap (λ x. get_or bits x false) back ∙ is

    no_wrong : {A : Type 0} (b : Bool) → b ≡ true → b ≡ false → A
    no_wrong true e f = cc
    no_wrong false e f = cc

    not_behind : (m : ℕ) → holds_in slots bits (slot m r) ≡ true → place_of slots m r < length slots → place_of slots m r < past → (at < place_of slots m r) ⊎ (place_of slots m r ≤ at) → place_of slots m r ≤ at
    not_behind m h p s (inr l) = l
    not_behind m h p s (inl l) =
        no_wrong (get_or bits (6 + place_of slots m r) false)
        (let t : nat_lt (place_of slots m r) (length slots) ≡ true = grind (arith, nat_tests) in sym (ap (λ x. x && get_or bits (6 + place_of slots m r) false) t) ∙ h)
        (last (6 + place_of slots m r) (omega arith) (omega arith))

    greatest : (m : ℕ) → holds_in slots bits (slot m r) ≡ true → below (slot_at slots at).distance m ≡ false
    greatest m h =
        let p = found_fact slots bits m r h in
        let t = between slots m r first past ranked a b p in
        let f = found_there slots m r p in
        let l = not_behind m h p t.1 (cases_lt at (place_of slots m r)) in
        let s = rank_within slots (place_of slots m r) at ranked l inside in
        let q = own in
        let d = f.0 in
        let g = f.1 in
        ap (below (slot_at slots at).distance) (sym d)
        ∙ not_lower (slot_at slots at).distance (slot_at slots (place_of slots m r)).distance (ranked.may at inside).1 (ranked.may (place_of slots m r) p).1 (omega arith)

-- no slot is of another register
pub last_other : (slots : List Slot) (bits : List Bool) (r : ℕ) → IsRanked slots → 7 ≤ r → IsSlotOf (holds_in slots bits) r None
last_other slots bits r ranked h = λ n.
    let other : is_saved r ≡ false = grind (arith, nat_tests) in
    ap (λ x. x && get_or bits (6 + place_of slots n r) false) (not_there slots n r (ranked_plain slots ranked) other)
