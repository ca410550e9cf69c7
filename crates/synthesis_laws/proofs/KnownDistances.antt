-- What is known of distances at an item: they are below 2^64, and what every walk gives after it is what those that are known there give.
use Rattle.std.proofs.Common.{◌≡◌, ℕ, ◌+◌, ◌-◌, ◌^◌, ◌<◌, ◌==◌, nat_lt, Bool, true, false, cond, Option, Some, None, List, [], ◌∷◌, slice_get, refl, ap, ◌∙◌, arith}
use Rattle.insn_effects.specs.Followed.{wrap, FollowedMove, Followed, followed_by}
use Rattle.code_functions.specs.declared.items.CodeItem.{CodeItem}
use Rattle.flow_graph.specs.declared.nodes.Node.{Node}
use Rattle.flow_graph.specs.Walks.{IsWalk}
use Rattle.stack_depths.specs.Distances.{Distances, has_bit, unless_written, sum_of, moved_by, distance_after, distance_over, distances_along, AreDistances}

-- all of these distances are below 2^64
abbrev pub AreSmall : Distances → Type 0
AreSmall known = (q k : ℕ) → known q ≡ Some k → k < 2 ^ 64

-- what is there is one
same_there : (k l : ℕ) → Some k ≡ Some l → k ≡ l
same_there k l e = cc

-- a distance of a register that is not written
unless_small : (written : Bool) (distance : Option ℕ) (k : ℕ) → ((l : ℕ) → distance ≡ Some l → l < 2 ^ 64) → unless_written written distance ≡ Some k → k < 2 ^ 64
unless_small true distance k small e = absurd (let none : ⊥ = cc in none)
unless_small false distance k small e = small k e

-- a number more
sum_small : (distance : Option ℕ) (more k : ℕ) → sum_of distance more ≡ Some k → k < 2 ^ 64
sum_small None more k e = absurd (let none : ⊥ = cc in none)
sum_small (Some d) more k e = let same : wrap (d + more) ≡ k = same_there _ _ e in omega arith

-- those after a move
moved_small : (moves : Option FollowedMove) (written : Bool) (before : Distances) (q k : ℕ) → AreSmall before → moved_by moves written before q ≡ Some k → k < 2 ^ 64
moved_small None written before q k small e = unless_small written (before q) k (small q) e
moved_small (Some m) written before q k small e = by (m.to == q) e
  where
    by : (b : Bool) → cond b (sum_of (before m.base) m.add) (unless_written written (before q)) ≡ Some k → k < 2 ^ 64
    by true is = sum_small (before m.base) m.add k is
    by false is = unless_small written (before q) k (small q) is

-- those after an item
over_small : (item : Option CodeItem) (before : Distances) → AreSmall before → AreSmall (distance_over item before)
over_small None before small q k e = small q k e
over_small (Some item) before small q k e =
    moved_small (followed_by item.effect).moves (has_bit (followed_by item.effect).written q) before q k small e

-- those along a walk
pub along_small : (items : List CodeItem) (w : List ℕ) → AreSmall (distances_along items w)
along_small items [] q k e = by (q == 0) e
  where
    by : (b : Bool) → cond b (Some (2 ^ 64 - 8)) None ≡ Some k → k < 2 ^ 64
    by true is = let same : 2 ^ 64 - 8 ≡ k = same_there _ _ is in omega arith
    by false is = absurd (let none : ⊥ = cc in none)
along_small items (last ∷ before) q k e = by (along_small items before) (nat_lt q 7) e
  where
    by : AreSmall (distances_along items before) → (b : Bool) → cond b (distance_over (slice_get items last) (distances_along items before) q) None ≡ Some k → k < 2 ^ 64
    by small true is = over_small (slice_get items last) (distances_along items before) small q k is
    by small false is = absurd (let none : ⊥ = cc in none)

module _ (nodes : List Node) (items : List CodeItem) (known : ℕ → Distances) (are : AreDistances nodes items known) where
  -- those that are known at an item
  pub known_small : (j : ℕ) → AreSmall (known j)
  known_small j q k e = let walks = (are j q k).0 e in along_small items walks.0.0 q k (walks.1 walks.0.0 walks.0.1)

  -- a walk to an item, and every walk to it gives this
  abbrev pub EachGives : ℕ → (List ℕ → Option ℕ) → ℕ → Type 0
  EachGives i told k = ((w : List ℕ) × IsWalk nodes w i) × ((w : List ℕ) → IsWalk nodes w i → told w ≡ Some k)

  -- what no move gives
  unless_known : (i q k : ℕ) (written : Bool) → EachGives i (λ w. unless_written written (distances_along items w q)) k → unless_written written (known i q) ≡ Some k
  unless_known i q k true each = absurd (let is = each.1 each.0.0 each.0.1 in let none : ⊥ = cc in none)
  unless_known i q k false each = (are i q k).1 each

  -- numbers to which the same is added
  same_sum : (one other more k : ℕ) → one < 2 ^ 64 → other < 2 ^ 64 → wrap (one + more) ≡ k → wrap (other + more) ≡ k → one ≡ other
  same_sum one other more k a b x y = omega arith

  -- what is there, if a number more is
  sum_there : (distance : Option ℕ) (more k : ℕ) → sum_of distance more ≡ Some k → (d : ℕ) × (distance ≡ Some d) × (wrap (d + more) ≡ k)
  sum_there None more k e = absurd (let none : ⊥ = cc in none)
  sum_there (Some d) more k e = (d, refl, same_there _ _ e)

  -- what a move gives
  sum_known : (i q more k : ℕ) → EachGives i (λ w. sum_of (distances_along items w q) more) k → sum_of (known i q) more ≡ Some k
  sum_known i q more k each =
      let first = sum_there (distances_along items each.0.0 q) more k (each.1 each.0.0 each.0.1) in
      let there : (w : List ℕ) → IsWalk nodes w i → distances_along items w q ≡ Some first.0 = λ w walk.
      let this = sum_there (distances_along items w q) more k (each.1 w walk) in
      this.1 ∙ ap Some (same_sum this.0 first.0 more k (along_small items w q this.0 this.1) (along_small items each.0.0 q first.0 first.1) this.2 first.2) in
      ap (λ d. sum_of d more) ((are i q first.0).1 (each.0, there)) ∙ ap Some first.2

  -- what every walk gives after an item
  moved_known : (moves : Option FollowedMove) (written : Bool) (i q k : ℕ)
      → EachGives i (λ w. moved_by moves written (distances_along items w) q) k → moved_by moves written (known i) q ≡ Some k
  moved_known None written i q k each = unless_known i q k written each
  moved_known (Some m) written i q k each = by (m.to == q) each
    where
      by : (b : Bool) → EachGives i (λ w. cond b (sum_of (distances_along items w m.base) m.add) (unless_written written (distances_along items w q))) k
          → cond b (sum_of (known i m.base) m.add) (unless_written written (known i q)) ≡ Some k
      by true all = sum_known i m.base m.add k all
      by false all = unless_known i q k written all

  -- what every walk gives after an item that is followed so
  pub after_known : (e : Followed) (i q k : ℕ) → EachGives i (λ w. distance_after e (distances_along items w) q) k → distance_after e (known i) q ≡ Some k
  after_known e i q k each = moved_known e.moves (has_bit e.written q) i q k each
