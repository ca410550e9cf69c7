use Rattle.std.proofs.Common.{◌≡◌, ◌<◌, ◌+◌, ◌*◌, ℕ, length, refl, ap, subst, arith, [], ◌∷◌, ◌++◌, List}
use Rattle.work_lists.specs.Graphs.{edges}
use Rattle.work_lists.specs.Search.{charge, owed, Carried, Searching}
use Rattle.work_lists.proofs.ChargeLemmas.{carry_pays, charge_none}
use Rattle.work_lists.proofs.EndLemmas.{search_begins, search_ends}
use Rattle.work_lists.proofs.flowing.flow.Goals as goal

pub carry-requires-clause-place : goal.carry-requires-clause-place
carry-requires-clause-place g c = let l = c.in_ok-states.ensures.long in let n = c.len.ensures in let s = c.requires.some in omega arith

pub loop-i-init : goal.loop-i-init
loop-i-init g c =
    let r = g.A.Analysis.rules c.args.analysis.now in
    let n = g.G.Edges.rows c.args.graph.now in
    let l : length c.in_ok-states.states.items ≡ length n = let a = c.in_ok-states.ensures.long in let m = c.len.ensures in omega arith in
    let some : 0 < length n = c.requires.some in
    let inside : 0 < length c.in_ok-states.states.items = omega arith in
    let todo : c.new-todo.result.items ≡ [] = c.new-todo.ensures.items in
    let P : List ℕ → Type 0 = λ w. Carried r c.in_ok-states.states.items c.carry.new.states.items w c.carry.new.todo.items 0 c.in_ok-first.first in
    let carried : Carried r c.in_ok-states.states.items c.carry.new.states.items [] c.carry.new.todo.items 0 c.in_ok-first.first = subst P todo c.in_ok-carry.ensures in
    let paid = carry_pays r (length) n c.in_ok-states.states.items c.carry.new.states.items [] c.carry.new.todo.items 0 c.in_ok-first.first l inside carried in
    let none : charge r (length) n c.in_ok-states.states.items ≡ (r.limit + 1) * edges n = charge_none r (length) n c.in_ok-states.states.items l c.in_ok-states.ensures.none in
    record {
      searching = search_begins r n c.in_ok-states.states.items c.carry.new.states.items c.carry.new.todo.items c.in_ok-first.first l some c.in_ok-states.ensures.none c.in_ok-first.ensures.holds carried;
      paid = let t = c.tick.ensures in omega arith;
    }

empty_list : (xs : List ℕ) → length xs ≡ 0 → xs ≡ []
empty_list [] h = refl
empty_list (x ∷ xs) h = absurd (omega arith)

pub follow-requires-clause-waits : goal.follow-requires-clause-waits
follow-requires-clause-waits g c =
    let P : List ℕ → Type 0 = λ w. Searching (g.A.Analysis.rules c.args.analysis.now) (g.G.Edges.rows c.args.graph.now) c.loop-i.states.items w in
    subst P c.in-Some.ensures.items c.loop-i.invariant.searching

pub loop-i-preserved : goal.loop-i-preserved
loop-i-preserved g c =
    let r = g.A.Analysis.rules c.args.analysis.now in
    let n = g.G.Edges.rows c.args.graph.now in
    let same : owed r length n c.loop-i.states.items c.loop-i.todo.items ≡ owed r length n c.loop-i.states.items (c.pop.new.self.items ++ c.in-Some.i ∷ []) = ap (owed r length n c.loop-i.states.items) c.in-Some.ensures.items in
    record {
      searching = c.in_ok-follow.ensures.searching;
      paid = let a = c.loop-i.invariant.paid in let b = c.in_ok-follow.ensures.paid in omega arith;
    }

pub returns-clause-exact : goal.returns-clause-exact
returns-clause-exact g c = search_ends (g.A.Analysis.rules c.args.analysis.now) (g.G.Edges.rows c.args.graph.now) c.loop-i.states.items c.loop-i.todo.items (empty_list c.loop-i.todo.items (let x = c.in_default.ensures.cases in let k = c.loop-i.todo.ok.0 in omega arith)) c.loop-i.invariant.searching
