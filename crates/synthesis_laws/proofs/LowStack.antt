-- Where no fault is told, rsp never stands above the return address.
use Rattle.std.proofs.Common.{◌≡◌, ℕ, ◌-◌, ◌^◌, ◌<◌, ◌⊎◌, inl, inr, Bool, true, false, Option, Some, None, List, [], ◌∷◌, length, slice_get, Contains, refl, sym, ap, subst, ◌∙◌, arith}
use Rattle.std.proofs.lemmas.Bool.{cases_Bool}
use Rattle.std.proofs.lemmas.Option.{slice_get_within}
use Rattle.asm_base.specs.declared.faults.ScfiFault.TheVariants as scfi
use Rattle.insn_effects.specs.declared.effects.Role.{Role}
use Rattle.insn_effects.specs.declared.effects.Role.TheVariants as role
use Rattle.insn_effects.specs.declared.effects.Effect.{Effect}
use Rattle.insn_effects.specs.Followed.{followed_by, moves_by}
use Rattle.code_functions.specs.declared.items.CodeItem.{CodeItem}
use Rattle.flow_graph.specs.declared.nodes.Node.{Node}
use Rattle.flow_graph.specs.Walks.{successors_at, successors, IsWalk}
use Rattle.stack_depths.specs.Distances.{has_bit, unless_written, moved_by, distance_after, distance_over, distances_along}
use Rattle.stack_facts.specs.Places.{below}
use Rattle.scfi_pass.specs.Faults.{at_exit, is_return, IsAbove, IsSound}
use Rattle.scfi_pass.specs.Tables.{Analyzed, IsAnalyzed, situation, IsSoundAt}
use Rattle.synthesis_laws.proofs.KnownDistances.{EachGives, after_known}

-- a return moves no register
unmoved : (own : Role) (e : Effect) → is_return own ≡ true → moves_by own e ≡ None
unmoved role.Return e is = refl
unmoved role.ReturnPopping e is = refl
unmoved _ e is = absurd (let none : ⊥ = cc in none)

-- an item from which control goes on is there
from_there : (nodes : List Node) (i j : ℕ) → Contains (successors nodes i) j → (node : Node) × (slice_get nodes i ≡ Some node)
unfolding successors
from_there nodes i j leads = by (slice_get nodes i) refl leads
  where
    by : (found : Option Node) → slice_get nodes i ≡ found → Contains (successors_at found (length nodes) i) j → (node : Node) × (slice_get nodes i ≡ Some node)
    by None is none = absurd (let low : none.0 < 0 = none.1 in omega arith)
    by (Some node) is goes = (node, is)

-- a distance that stays where no move is
stays : (written : Bool) (distance : Option ℕ) (d : ℕ) → unless_written written distance ≡ Some d → distance ≡ Some d
stays true distance d e = absurd (let none : ⊥ = cc in none)
stays false distance d e = e

module _ (a : Analyzed) (is : IsAnalyzed a) (sound : (j : ℕ) → j < length a.items → IsSoundAt a j) where
  -- rsp does not stand above the return address at an item
  abbrev pub IsLow : ℕ → Type 0
  IsLow j = (d : ℕ) → a.distances j 0 ≡ Some d → below at_exit d ≡ false

  -- every walk to an item and on to the next one gives this after it
  after_each : (i j d : ℕ) → (w : List ℕ) → IsWalk a.nodes w i → Contains (successors a.nodes i) j → a.distances j 0 ≡ Some d
      → EachGives a.nodes a.items a.distances is.distances i (λ w. distance_over (slice_get a.items i) (distances_along a.items w) 0) d
  after_each i j d w walk leads at = ((w, walk), λ v way. ((is.distances j 0 d).0 at).1 (i ∷ v) (leads, way))

  -- behind an item that is there
  low_behind : (i j : ℕ) (item : CodeItem) (w : List ℕ) → slice_get a.items i ≡ Some item → IsWalk a.nodes w i → Contains (successors a.nodes i) j
      → IsLow i → IsLow j
  low_behind i j item w there walk leads before d at = by (cases_Bool (is_return item.effect.role))
    where
      Each : Option CodeItem → Type 0
      Each found = EachGives a.nodes a.items a.distances is.distances i (λ v. distance_over found (distances_along a.items v) 0) d

      each : Each (Some item)
      each = subst Each there (after_each i j d w walk leads at)

      after : distance_after (followed_by item.effect) (a.distances i) 0 ≡ Some d
      after = after_known a.nodes a.items a.distances is.distances (followed_by item.effect) i 0 d each

      not_above : is_return item.effect.role ≡ false → IsAbove (Some d) → ⊥
      not_above other above =
          let node = from_there a.nodes i j leads in
          let s = situation a i item node.0 in
          let reached = (is.reached i).1 (w, walk) in
          let Above : Option ℕ → Type 0 = IsAbove in
          let told : IsSound s = sound i (slice_get_within a.items i item there) reached item node.0 there node.1 in
          told scfi.ReturnAddressOverwritten (inr (other, subst Above (sym after) above))

      low : (b : Bool) → (b ≡ true → ⊥) → b ≡ false
      low true never = absurd (never refl)
      low false never = refl

      by : (is_return item.effect.role ≡ true) ⊎ (is_return item.effect.role ≡ false) → below at_exit d ≡ false
      by (inl returns) =
          let moves = unmoved item.effect.role item.effect returns in
          let bit = has_bit (followed_by item.effect).written 0 in
          before d (stays bit (a.distances i 0) d (ap (λ m. moved_by m bit (a.distances i) 0) (sym moves) ∙ after))
      by (inr other) = low (below at_exit d) (not_above other)

  -- behind an item that is not there
  low_past : (i j : ℕ) (w : List ℕ) → slice_get a.items i ≡ None → IsWalk a.nodes w i → Contains (successors a.nodes i) j → IsLow i → IsLow j
  low_past i j w there walk leads before d at =
      let Each : Option CodeItem → Type 0 = λ found. EachGives a.nodes a.items a.distances is.distances i (λ v. distance_over found (distances_along a.items v) 0) d in
      before d ((is.distances i 0 d).1 (subst Each there (after_each i j d w walk leads at)))

  -- at each item to which a walk leads
  pub stack_low : (w : List ℕ) (j : ℕ) → IsWalk a.nodes w j → IsLow j
  stack_low [] j walk = λ d at.
      let along : Some (2 ^ 64 - 8) ≡ Some d = ((is.distances j 0 d).0 at).1 [] walk in
      let same : 2 ^ 64 - 8 ≡ d = cc in
      ap (below at_exit) (sym same)
  stack_low (i ∷ before) j walk = by (slice_get a.items i) refl (stack_low before i walk.1)
    where
      by : (found : Option CodeItem) → slice_get a.items i ≡ found → IsLow i → IsLow j
      by None there low = low_past i j before there walk.1 walk.0 low
      by (Some item) there low = low_behind i j item before there walk.1 walk.0 low
