use Rattle.std.proofs.Common.{◌≡◌, ℕ, ◌+◌, ◌-◌, ◌<◌, ◌≤◌, ◌==◌, ◌||◌, ◌&&◌, ◌↔◌, not, nat_lt, Bool, true, false, Option, Some, None, option_map, List, [], ◌∷◌, length, get_or, slice_get, refl, sym, ap, ◌∙◌, arith}
use Rattle.std.proofs.lemmas.Bool.Decides.{nat_tests}
use Rattle.work_lists.specs.Exact as lists
use Rattle.work_lists.specs.Graphs as graphs
use Rattle.flow_graph.specs.declared.nodes.Node.{Node}
use Rattle.flow_graph.specs.Walks.{successor_lists, IsWalk}
use Rattle.insn_effects.specs.Followed.{followed_by}
use Rattle.code_functions.specs.declared.items.CodeItem.{CodeItem}
use Rattle.stack_depths.specs.Distances.{Distances}
use Rattle.stack_facts.specs.declared.values.Clauses.{Clauses}
use Rattle.stack_facts.specs.declared.values.Slot.{Slot}
use Rattle.stack_facts.specs.declared.values.Change.{Change}
use Rattle.stack_facts.specs.Places.{is_saved, change_by, writes}
use Rattle.stack_facts.specs.Facts.{Fact, entry, slot, is_at, is_below, is_touched, loads_own, facts_after, facts_over_by, facts_along_by, entry_facts, AreFactsBy}
use Rattle.stack_facts.specs.Sets.{place_of, slot_at, fact_at, holds_in, IsPlain}
use Rattle.stack_facts.specs.Sources.{source_over, carried_from}
use Rattle.stack_facts.specs.States.{said, fact_of, fact_rules, stands_at, facts_in}
use Rattle.stack_facts.proofs.SourceLemmas.{after_from_source}
use Rattle.stack_facts.proofs.ChangeLemmas.{is_change}
use Rattle.stack_facts.proofs.SlotLemmas.{found_there}

-- nothing holds with what does not
and_false : (a : Bool) → (a && false) ≡ false
and_false true = refl
and_false false = refl

-- true is not false
wrong : {A : Type 0} → true ≡ false → A
wrong h = cc

-- no slot of another register is in the table
pub not_there : (slots : List Slot) (n r : ℕ) → IsPlain slots → is_saved r ≡ false → nat_lt (place_of slots n r) (length slots) ≡ false
not_there slots n r plain other = by_test (nat_lt (place_of slots n r) (length slots)) refl
  where
    by_test : (b : Bool) → nat_lt (place_of slots n r) (length slots) ≡ b → b ≡ false
    by_test false e = refl
    by_test true e =
        let h : place_of slots n r < length slots = grind (arith, nat_tests) in
        let six = plain.of_six (place_of slots n r) h in
        let who = (found_there slots n r h).1 in
        wrong (sym six ∙ ap is_saved who ∙ other)

-- no register but the six is loaded from a slot of its own
unfounded : (loaded : Option Slot) (slots : List Slot) (bits : List Bool) (r : ℕ) → IsPlain slots → is_saved r ≡ false → loads_own loaded (holds_in slots bits) r ≡ false
unfounded None slots bits r plain other = refl
unfounded (Some s) slots bits r plain other =
    ap (λ b. (s.register == r) && (b && get_or bits (6 + place_of slots s.distance r) false)) (not_there slots s.distance r plain other) ∙ and_false (s.register == r)

-- a slot that neither stood nor is made does not stand
none_stays : (a x t l b y : Bool) → a ≡ false → x ≡ false → ((((a && y) || (x && not t)) && not (l && x)) && not b) ≡ false
none_stays a x t l b y h g = grind arith

-- the fact at the place of a slot
at_place : (slots : List Slot) (n r : ℕ) → place_of slots n r < length slots → fact_at slots (place_of slots n r) ≡ slot n r
at_place slots n r h =
    let f = found_there slots n r h in
    ap (λ x. slot x (slot_at slots (place_of slots n r)).register) f.0 ∙ ap (λ x. slot n x) f.1

-- a set that was filled bit by bit has the facts after an item
pub holds_after : (slots : List Slot) (written : ℕ → Bool) (c : Change) (before after : List Bool) → IsPlain slots
    → ((n r : ℕ) → is_at c.saved n r ≡ true → place_of slots n r < length slots)
    → ((k : ℕ) → k < 6 → get_or after k false ≡ facts_after written c (holds_in slots before) (entry (k + 1)))
    → ((k : ℕ) → k < length slots → get_or after (6 + k) false ≡ facts_after written c (holds_in slots before) (fact_at slots k))
    → (f : Fact) → holds_in slots after f ≡ facts_after written c (holds_in slots before) f
holds_after slots written c before after plain saved entries rest (entry r) = by_six (is_saved r) refl
  where
    by_six : (b : Bool) → is_saved r ≡ b → (is_saved r && get_or after (r - 1) false) ≡ facts_after written c (holds_in slots before) (entry r)
    by_six true e =
        let low : 0 < r = grind (arith, nat_tests) in
        let high : r < 7 = grind (arith, nat_tests) in
        let again : r - 1 + 1 ≡ r = omega arith in
        ap (λ b. b && get_or after (r - 1) false) e ∙ entries (r - 1) (omega arith) ∙ ap (λ q. facts_after written c (holds_in slots before) (entry q)) again
    by_six false e =
        ap (λ b. b && get_or after (r - 1) false) e
        ∙ sym (ap (λ b. b || ((is_saved r && get_or before (r - 1) false) && not (written r))) (unfounded c.loaded slots before r plain e)
        ∙ ap (λ b. (b && get_or before (r - 1) false) && not (written r)) e)
holds_after slots written c before after plain saved entries rest (slot n r) = by_place (nat_lt (place_of slots n r) (length slots)) refl
  where
    by_place : (b : Bool) → nat_lt (place_of slots n r) (length slots) ≡ b → (nat_lt (place_of slots n r) (length slots) && get_or after (6 + place_of slots n r) false) ≡ facts_after written c (holds_in slots before) (slot n r)
    by_place true e =
        let h : place_of slots n r < length slots = grind (arith, nat_tests) in
        ap (λ b. b && get_or after (6 + place_of slots n r) false) e ∙ rest (place_of slots n r) h ∙ ap (facts_after written c (holds_in slots before)) (at_place slots n r h)
    by_place false e =
        ap (λ b. b && get_or after (6 + place_of slots n r) false) e
        ∙ sym (none_stays (is_at c.saved n r) (holds_in slots before (slot n r)) (is_touched c.stored n || is_below c.cleared n) (is_at c.freed n r) (is_below c.floor n) (holds_in slots before (entry r)) (unsaved (is_at c.saved n r) refl) (ap (λ b. b && get_or before (6 + place_of slots n r) false) e))
      where
        unsaved : (b : Bool) → is_at c.saved n r ≡ b → b ≡ false
        unsaved false t = refl
        unsaved true t = let h = saved n r t in absurd (let far : length slots ≤ place_of slots n r = grind (arith, nat_tests) in omega arith)

-- the entry values alone
pub begins : (slots : List Slot) (bits : List Bool) → ((k : ℕ) → k < 6 → get_or bits k false ≡ true) → ((k : ℕ) → 6 ≤ k → get_or bits k false ≡ false)
    → (f : Fact) → holds_in slots bits f ≡ entry_facts f
begins slots bits low high (entry r) = by_six (is_saved r) refl
  where
    by_six : (b : Bool) → is_saved r ≡ b → (is_saved r && get_or bits (r - 1) false) ≡ is_saved r
    by_six true e =
        let l : 0 < r = grind (arith, nat_tests) in
        let h : r < 7 = grind (arith, nat_tests) in
        ap (λ b. b && get_or bits (r - 1) false) e ∙ low (r - 1) (omega arith) ∙ sym e
    by_six false e = ap (λ b. b && get_or bits (r - 1) false) e ∙ sym e
begins slots bits low high (slot n r) = ap (λ b. nat_lt (place_of slots n r) (length slots) && b) (high (6 + place_of slots n r) (omega arith)) ∙ and_false (nat_lt (place_of slots n r) (length slots))

-- the same bits, as far as the table goes
pub stays : (slots : List Slot) (before after : List Bool) → ((k : ℕ) → k < 6 + length slots → get_or after k false ≡ get_or before k false)
    → (f : Fact) → holds_in slots after f ≡ holds_in slots before f
stays slots before after same (entry r) = by_six (is_saved r) refl
  where
    by_six : (b : Bool) → is_saved r ≡ b → (is_saved r && get_or after (r - 1) false) ≡ (is_saved r && get_or before (r - 1) false)
    by_six true e = let h : r < 7 = grind (arith, nat_tests) in ap (λ b. is_saved r && b) (same (r - 1) (omega arith))
    by_six false e = ap (λ b. b && get_or after (r - 1) false) e ∙ sym (ap (λ b. b && get_or before (r - 1) false) e)
stays slots before after same (slot n r) = by_place (nat_lt (place_of slots n r) (length slots)) refl
  where
    by_place : (b : Bool) → nat_lt (place_of slots n r) (length slots) ≡ b → (nat_lt (place_of slots n r) (length slots) && get_or after (6 + place_of slots n r) false) ≡ (nat_lt (place_of slots n r) (length slots) && get_or before (6 + place_of slots n r) false)
    by_place true e = let h : place_of slots n r < length slots = grind (arith, nat_tests) in ap (λ b. nat_lt (place_of slots n r) (length slots) && b) (same (6 + place_of slots n r) (omega arith))
    by_place false e = ap (λ b. b && get_or after (6 + place_of slots n r) false) e ∙ sym (ap (λ b. b && get_or before (6 + place_of slots n r) false) e)

-- what holds with two holds with each
and_both : (s a b : Bool) → (s && (a && b)) ≡ ((s && a) && (s && b))
and_both true a b = refl
and_both false a b = refl

-- what two sets have both
pub met : (slots : List Slot) (into from after : List Bool) → ((k : ℕ) → get_or after k false ≡ (get_or into k false && get_or from k false))
    → (f : Fact) → holds_in slots after f ≡ (holds_in slots into f && holds_in slots from f)
met slots into from after both (entry r) = ap (λ b. is_saved r && b) (both (r - 1)) ∙ and_both (is_saved r) (get_or into (r - 1) false) (get_or from (r - 1) false)
met slots into from after both (slot n r) =
    let k = 6 + place_of slots n r in
    let t = nat_lt (place_of slots n r) (length slots) in
    ap (λ b. t && b) (both k) ∙ and_both t (get_or into k false) (get_or from k false)

-- facts of the work list are facts
pub carried_said : (stood : Fact → Bool) (o : Option Fact) → lists.carried_from (λ f. stood (fact_of f)) (option_map said o) ≡ carried_from stood o
carried_said stood None = refl
carried_said stood (Some (entry r)) = refl
carried_said stood (Some (slot n r)) = refl

-- the facts after an item come from one before it
pub over_source : (by : Clauses) (o : Option CodeItem) (known : Distances) (stood : Fact → Bool) (f : Fact) → facts_over_by by o known stood f ≡ carried_from stood (source_over by o known f)
over_source by None known stood f = refl
over_source by (Some item) known stood f = after_from_source (writes (followed_by item.effect)) (change_by by (followed_by item.effect) known) stood f (is_change by item.effect known)

-- facts that come from sets that are the same
same_carried : (a b : lists.Fact → Bool) (o : Option lists.Fact) → ((f : lists.Fact) → a f ≡ b f) → lists.carried_from a o ≡ lists.carried_from b o
same_carried a b None h = refl
same_carried a b (Some f) h = h f

-- a walk carries the facts along it
along : (by : Clauses) (items : List CodeItem) (known : ℕ → Distances) (slots : List Slot) (w : List ℕ) (f : lists.Fact)
    → lists.carries (fact_rules by items known slots) w f ≡ facts_along_by by items known w (fact_of f)
unfolding fact_rules
along by items known slots [] f = refl
along by items known slots (i ∷ w) f =
    let o = source_over by (slice_get items i) (known i) (fact_of f) in
    same_carried (lists.carries (fact_rules by items known slots) w) (λ g. facts_along_by by items known w (fact_of g)) (option_map said o) (along by items known slots w)
    ∙ carried_said (facts_along_by by items known w) o
    ∙ sym (over_source by (slice_get items i) (known i) (facts_along_by by items known w) (fact_of f))

-- what is said of a fact is the fact
unsaid : (f : Fact) → fact_of (said f) ≡ f
unsaid (entry r) = refl
unsaid (slot n r) = refl

-- what the work list answers is what all walks carry
pub exact_facts : (by : Clauses) (nodes : List Node) (items : List CodeItem) (known : ℕ → Distances) (slots : List Slot) (states : List (Option (List Bool)))
    → ((w : List ℕ) (j : ℕ) → IsWalk nodes w j → graphs.IsWalk (successor_lists nodes) w j)
    → ((w : List ℕ) (j : ℕ) → graphs.IsWalk (successor_lists nodes) w j → IsWalk nodes w j)
    → lists.AreExact (fact_rules by items known slots) (successor_lists nodes) states → AreFactsBy by nodes items known (facts_in (slots, states))
unfolding fact_rules facts_in
exact_facts by nodes items known slots states listed unlisted exact j f = at_state (lists.look states j) (exact.1 j)
  where
    carried : (w : List ℕ) → lists.carries (fact_rules by items known slots) w (said f) ≡ facts_along_by by items known w f
    carried w = along by items known slots w (said f) ∙ ap (facts_along_by by items known w) (unsaid f)

    at_state : (o : Option (List Bool)) → lists.IsExactAt (fact_rules by items known slots) (successor_lists nodes) j o
        → (stands_at slots o f ≡ true) ↔ (((w : List ℕ) × IsWalk nodes w j) × ((w : List ℕ) → IsWalk nodes w j → facts_along_by by items known w f ≡ true))
    at_state None e = (λ h. cc, λ h. absurd (e h.0.0 (listed h.0.0 j h.0.1)))
    at_state (Some s) e = (
      λ h. ((e.0.0, unlisted e.0.0 j e.0.1), λ w walk. sym (carried w) ∙ (e.1 (said f)).0 (ap (holds_in slots s) (unsaid f) ∙ h) w (listed w j walk)),
      λ h. ap (holds_in slots s) (sym (unsaid f)) ∙ (e.1 (said f)).1 (λ w walk. carried w ∙ h.1 w (unlisted w j walk)),
    )

-- nothing stands in a function without items
pub no_facts : (by : Clauses) (nodes : List Node) (items : List CodeItem) (known : ℕ → Distances) (slots : List Slot) (states : List (Option (List Bool))) → length nodes ≡ 0 → states ≡ [] → AreFactsBy by nodes items known (facts_in (slots, states))
unfolding facts_in
no_facts by nodes items known slots states none e j f = (λ h. nothing (ap (λ x. stands_at slots (lists.look x j) f) (sym e) ∙ h), λ h. no_walks h.0.0 j h.0.1)
  where
    nothing : {A : Type 0} → false ≡ true → A
    nothing h = cc

    no_walks : {A : Type 0} (w : List ℕ) (k : ℕ) → IsWalk nodes w k → A
    no_walks [] k h = let some = h.1 in absurd (omega arith)
    no_walks (i ∷ w) k h = no_walks w i h.1

-- the facts of the work list after an item, where the set has those after it
pub after_case : (by : Clauses) (o : Option CodeItem) (known : Distances) (slots : List Slot) (before after : List Bool)
    → ((f : Fact) → holds_in slots after f ≡ facts_over_by by o known (holds_in slots before) f)
    → (f : lists.Fact) → holds_in slots after (fact_of f) ≡ lists.carried_from (λ g. holds_in slots before (fact_of g)) (option_map said (source_over by o known (fact_of f)))
after_case by o known slots before after h f =
    h (fact_of f) ∙ over_source by o known (holds_in slots before) (fact_of f) ∙ sym (carried_said (holds_in slots before) (source_over by o known (fact_of f)))
