-- Two analyses of the same items and nodes are one.
use Rattle.std.proofs.Common.{◌≡◌, ℕ, Bool, true, false, Option, Some, None, List, refl, sym, ap, subst, ◌∙◌}
use Rattle.std.proofs.Math.Path.{fun_ext}
use Rattle.code_functions.specs.declared.items.CodeItem.{CodeItem}
use Rattle.flow_graph.specs.declared.nodes.Node.{Node}
use Rattle.stack_depths.specs.Distances.{Distances, AreDistances, AreReached}
use Rattle.stack_facts.specs.Facts.{Fact, AreFacts}
use Rattle.scfi_pass.specs.Tables.{Analyzed, IsAnalyzed}

-- numbers that are there alike
same_option : (a b : Option ℕ) → ((k : ℕ) → a ≡ Some k → b ≡ Some k) → ((k : ℕ) → b ≡ Some k → a ≡ Some k) → a ≡ b
same_option None None one other = refl
same_option None (Some k) one other = other k refl
same_option (Some k) b one other = sym (one k refl)

-- tests that are met alike
same_bool : (a b : Bool) → (a ≡ true → b ≡ true) → (b ≡ true → a ≡ true) → a ≡ b
same_bool false false one other = refl
same_bool false true one other = other refl
same_bool true b one other = sym (one refl)

module _ (nodes : List Node) (items : List CodeItem) where
  -- the same distances are known
  same_distances : (one other : ℕ → Distances) → AreDistances nodes items one → AreDistances nodes items other → one ≡ other
  same_distances one other a b =
      fun_ext (λ j. fun_ext (λ q. same_option (one j q) (other j q)
      (λ k is. (b j q k).1 ((a j q k).0 is)) (λ k is. (a j q k).1 ((b j q k).0 is))))

  -- the same items are reached
  same_reached : (one other : ℕ → Bool) → AreReached nodes one → AreReached nodes other → one ≡ other
  same_reached one other a b =
      fun_ext (λ j. same_bool (one j) (other j) (λ is. (b j).1 ((a j).0 is)) (λ is. (a j).1 ((b j).0 is)))

  -- the same facts stand, where the same distances are known
  same_facts : (known : ℕ → Distances) (one other : ℕ → Fact → Bool) → AreFacts nodes items known one → AreFacts nodes items known other → one ≡ other
  same_facts known one other a b =
      fun_ext (λ j. fun_ext (λ f. same_bool (one j f) (other j f)
      (λ is. (b j f).1 ((a j f).0 is)) (λ is. (a j f).1 ((b j f).0 is))))

-- two of the same items and nodes
same_of : (one other : Analyzed) → IsAnalyzed one → IsAnalyzed (record other { items = one.items; nodes = one.nodes })
    → one ≡ record other { items = one.items; nodes = one.nodes }
same_of one other a b =
    let known = same_distances one.nodes one.items one.distances other.distances a.distances b.distances in
    let there = same_reached one.nodes one.items one.reached other.reached a.reached b.reached in
    let Moved : (ℕ → Distances) → Type 0 = λ d. AreFacts one.nodes one.items d one.facts in
    let stand = same_facts one.nodes one.items other.distances one.facts other.facts (subst Moved known a.facts) b.facts in
    ap (λ d. record one { distances = d }) known
    ∙ ap (λ r. record one { distances = other.distances; reached = r }) there
    ∙ ap (λ f. record one { distances = other.distances; reached = other.reached; facts = f }) stand

-- two analyses of the same items and nodes
pub same_analyses : (one other : Analyzed) → one.items ≡ other.items → one.nodes ≡ other.nodes → IsAnalyzed one → IsAnalyzed other → one ≡ other
same_analyses one other items nodes a b =
    let Of : List CodeItem → Type 0 = λ x. IsAnalyzed (record other { items = x }) in
    let By : List Node → Type 0 = λ x. IsAnalyzed (record other { items = one.items; nodes = x }) in
    same_of one other a (subst By (sym nodes) (subst Of (sym items) b))
    ∙ ap (λ x. record other { items = one.items; nodes = x }) nodes
    ∙ ap (λ x. record other { items = x }) items
