-- Items that look alike: at each number, and along each walk.
use Rattle.std.proofs.Common.{◌≡◌, ◌↔◌, ℕ, zero, suc, ◌+◌, nat_lt, Bool, true, if◌then◌else◌, Option, Some, None, is_some, List, [], ◌∷◌, length, slice_get, refl, sym, ap, subst, ◌∙◌}
use Rattle.std.specs.Option.{option_map}
use Rattle.std.proofs.Math.Path.{fun_ext}
use Rattle.std.proofs.lemmas.List.{length-map}
use Rattle.std.proofs.lemmas.Option.{slice_get-map}
use Rattle.code_functions.specs.declared.items.CodeItem.{CodeItem}
use Rattle.flow_graph.specs.declared.nodes.Node.{Node}
use Rattle.flow_graph.specs.Walks.{IsWalk}
use Rattle.stack_depths.specs.Distances.{Distances, distance_after, distance_over, distances_along, AreDistances}
use Rattle.stack_facts.specs.declared.values.Slot.{Slot}
use Rattle.stack_facts.specs.Places.{saved_by, change_of, writes}
use Rattle.stack_facts.specs.Facts.{Fact, facts_after, facts_over, facts_along, AreFacts, saved_over, saves_before, saves}
use Rattle.synthesis_laws.specs.Sights.{Sight, sight_of, LookAlike}

-- the distances after what is seen of an item, if it is there
over_by : Option Sight → Distances → Distances
over_by None before q = before q
over_by (Some seen) before q = distance_after seen.effect before q

-- so they are after the item
over_seen : (item : Option CodeItem) (before : Distances) (q : ℕ) → distance_over item before q ≡ over_by (option_map sight_of item) before q
unfolding over_by
over_seen None before q = refl
over_seen (Some item) before q = refl

-- the facts after what is seen of an item, if it is there
facts_by : Option Sight → Distances → (Fact → Bool) → Fact → Bool
facts_by None known stood f = stood f
facts_by (Some seen) known stood f = facts_after (writes seen.effect) (change_of seen.effect known) stood f

-- so they are after the item
facts_seen : (item : Option CodeItem) (known : Distances) (stood : Fact → Bool) (f : Fact) → facts_over item known stood f ≡ facts_by (option_map sight_of item) known stood f
unfolding facts_by
facts_seen None known stood f = refl
facts_seen (Some item) known stood f = refl

-- the slot that what is seen of an item may make
saved_seen : (item : Option CodeItem) (known : Distances) → saved_over item known ≡ elim (option_map sight_of item) as (λ o. Option Slot) [ None ↦ None | Some seen ↦ saved_by seen.effect.stores known ]
saved_seen None known = refl
saved_seen (Some item) known = refl

module _ (one other : List CodeItem) (alike : LookAlike one other) where
  -- as many items
  pub alike_length : length one ≡ length other
  alike_length = sym (length-map one sight_of) ∙ ap length alike ∙ length-map other sight_of

  -- at each number the same is seen
  pub alike_at : (j : ℕ) → option_map sight_of (slice_get one j) ≡ option_map sight_of (slice_get other j)
  alike_at j = sym (slice_get-map sight_of one j) ∙ ap (λ seen. slice_get seen j) alike ∙ slice_get-map sight_of other j

  -- along each walk the same distances
  alike_distances : (w : List ℕ) → distances_along one w ≡ distances_along other w
  alike_distances [] = refl
  alike_distances (last ∷ before) = fun_ext (λ q. ap (λ d. if nat_lt q 7 then d else None) (over q (alike_distances before)))
    where
      over : (q : ℕ) → distances_along one before ≡ distances_along other before
          → distance_over (slice_get one last) (distances_along one before) q ≡ distance_over (slice_get other last) (distances_along other before) q
      over q same =
          over_seen (slice_get one last) (distances_along one before) q
          ∙ ap (λ seen. over_by seen (distances_along one before) q) (alike_at last)
          ∙ ap (λ known. over_by (option_map sight_of (slice_get other last)) known q) same
          ∙ sym (over_seen (slice_get other last) (distances_along other before) q)

  -- and the same facts
  alike_facts : (known : ℕ → Distances) (w : List ℕ) → facts_along one known w ≡ facts_along other known w
  alike_facts known [] = refl
  alike_facts known (last ∷ before) = fun_ext (λ f. over f (alike_facts known before))
    where
      over : (f : Fact) → facts_along one known before ≡ facts_along other known before
          → facts_over (slice_get one last) (known last) (facts_along one known before) f ≡ facts_over (slice_get other last) (known last) (facts_along other known before) f
      over f same =
          facts_seen (slice_get one last) (known last) (facts_along one known before) f
          ∙ ap (λ seen. facts_by seen (known last) (facts_along one known before) f) (alike_at last)
          ∙ ap (λ stood. facts_by (option_map sight_of (slice_get other last)) (known last) stood f) same
          ∙ sym (facts_seen (slice_get other last) (known last) (facts_along other known before) f)

  -- what is known at each item is the same
  pub distances_move : (nodes : List Node) (known : ℕ → Distances) → AreDistances nodes one known → AreDistances nodes other known
  distances_move nodes known are =
      let Known : (List ℕ → Distances) → Type 0 = λ along. (j q k : ℕ) → (known j q ≡ Some k)
      ↔ (((w : List ℕ) × IsWalk nodes w j) × ((w : List ℕ) → IsWalk nodes w j → along w q ≡ Some k)) in
      subst Known (fun_ext alike_distances) are

  -- and what stands there
  pub facts_move : (nodes : List Node) (known : ℕ → Distances) (stands : ℕ → Fact → Bool) → AreFacts nodes one known stands → AreFacts nodes other known stands
  facts_move nodes known stands are =
      let Standing : (List ℕ → Fact → Bool) → Type 0 = λ along. (j : ℕ) (f : Fact) → (stands j f ≡ true)
      ↔ (((w : List ℕ) × IsWalk nodes w j) × ((w : List ℕ) → IsWalk nodes w j → along w f ≡ true)) in
      subst Standing (fun_ext (alike_facts known)) are

  -- as many of the first items may make a slot
  alike_before : (known : ℕ → Distances) (count : ℕ) → saves_before one known count ≡ saves_before other known count
  alike_before known zero = refl
  alike_before known (suc count) =
      let saved : saved_over (slice_get one count) (known count) ≡ saved_over (slice_get other count) (known count) =
      saved_seen (slice_get one count) (known count)
      ∙ ap (λ seen. elim seen as (λ o. Option Slot) [ None ↦ None | Some s ↦ saved_by s.effect.stores (known count) ]) (alike_at count)
      ∙ sym (saved_seen (slice_get other count) (known count)) in
      ap (λ n. n + (if is_some (saved_over (slice_get one count) (known count)) then 1 else 0)) (alike_before known count)
      ∙ ap (λ found. saves_before other known count + (if is_some found then 1 else 0)) saved

  -- and of all
  pub alike_saves : (known : ℕ → Distances) → saves one known ≡ saves other known
  alike_saves known = alike_before known (length one) ∙ ap (saves_before other known) alike_length
