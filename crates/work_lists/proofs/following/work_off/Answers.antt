use Rattle.std.proofs.Common.{◌<◌, ◌++◌, ◌∷◌, [], None, length, refl, sym, ◌∙◌, arith}
use Rattle.std.proofs.lemmas.List.{get_or_read}
use Rattle.work_lists.proofs.SpreadLemmas.{spread_begins}
use Rattle.work_lists.proofs.EndLemmas.{passed_over, waiting_inside}
use Rattle.work_lists.proofs.following.work_off.Goals as goal

pub index-requires : goal.index-requires
index-requires g c =
    let w = waiting_inside (g.A.Analysis.rules c.args.analysis.now) (g.G.Edges.rows c.args.graph.now) c.args.states.now.items (c.args.todo.now.items ++ c.args.i ∷ []) c.args.todo.now.items c.args.i c.requires.waits refl in
    let l = c.requires.waits.long in let k = c.args.states.now.ok.0 in
    omega arith

pub only-requires : goal.only-requires
only-requires g c = waiting_inside (g.A.Analysis.rules c.args.analysis.now) (g.G.Edges.rows c.args.graph.now) c.args.states.now.items (c.args.todo.now.items ++ c.args.i ∷ []) c.args.todo.now.items c.args.i c.requires.waits refl

pub go_on-requires-clause-begun : goal.go_on-requires-clause-begun
go_on-requires-clause-begun g c =
    let r = g.A.Analysis.rules c.args.analysis.now in
    let n = g.G.Edges.rows c.args.graph.now in
    let w = waiting_inside r n c.args.states.now.items (c.args.todo.now.items ++ c.args.i ∷ []) c.args.todo.now.items c.args.i c.requires.waits refl in
    let short : c.args.i < length c.args.states.now.items = let l = c.requires.waits.long in omega arith in
    let there = get_or_read c.args.states.now.items c.args.i c.index.result.now short c.index.ensures None in
    spread_begins r n c.args.states.now.items (c.args.todo.now.items ++ c.args.i ∷ []) c.args.todo.now.items c.args.i c.in-Some.before c.in_ok-out-in-Some.out c.requires.waits refl (sym there ∙ c.in-Some.is) c.in_ok-out-in-Some.ensures.holds

pub spread_each-requires-clause-place : goal.spread_each-requires-clause-place
spread_each-requires-clause-place g c = waiting_inside (g.A.Analysis.rules c.args.analysis.now) (g.G.Edges.rows c.args.graph.now) c.args.states.now.items (c.args.todo.now.items ++ c.args.i ∷ []) c.args.todo.now.items c.args.i c.requires.waits refl

pub spread_each-requires-clause-begun : goal.spread_each-requires-clause-begun
spread_each-requires-clause-begun g c =
    let r = g.A.Analysis.rules c.args.analysis.now in
    let n = g.G.Edges.rows c.args.graph.now in
    let w = waiting_inside r n c.args.states.now.items (c.args.todo.now.items ++ c.args.i ∷ []) c.args.todo.now.items c.args.i c.requires.waits refl in
    let short : c.args.i < length c.args.states.now.items = let l = c.requires.waits.long in omega arith in
    let there = get_or_read c.args.states.now.items c.args.i c.index.result.now short c.index.ensures None in
    spread_begins r n c.args.states.now.items (c.args.todo.now.items ++ c.args.i ∷ []) c.args.todo.now.items c.args.i c.in-Some.before c.in_ok-out-in-Some.out c.requires.waits refl (sym there ∙ c.in-Some.is) c.in_ok-out-in-Some.ensures.holds

pub returns-in-None-clause-searching : goal.returns-in-None-clause-searching
returns-in-None-clause-searching g c =
    let r = g.A.Analysis.rules c.args.analysis.now in
    let n = g.G.Edges.rows c.args.graph.now in
    let w = waiting_inside r n c.args.states.now.items (c.args.todo.now.items ++ c.args.i ∷ []) c.args.todo.now.items c.args.i c.requires.waits refl in
    let short : c.args.i < length c.args.states.now.items = let l = c.requires.waits.long in omega arith in
    let there = get_or_read c.args.states.now.items c.args.i c.index.result.now short c.index.ensures None in
    passed_over r n c.args.states.now.items (c.args.todo.now.items ++ c.args.i ∷ []) c.args.todo.now.items c.args.i c.requires.waits refl (sym there ∙ c.in-None.is)
