use Rattle.std.proofs.Common.{◌++◌, ◌∷◌, [], length, arith}
use Rattle.work_lists.proofs.FollowLemmas.{only_inside, only_spread, only_paid}
use Rattle.work_lists.proofs.following.go_on.Goals as goal

pub index-requires : goal.index-requires
index-requires g c =
    let inside = only_inside (g.A.Analysis.rules c.args.analysis.now) (g.G.Edges.rows c.args.graph.now) c.args.states.now.items c.args.todo.now.items c.args.i c.args.j c.args.out c.requires.fits c.requires.only c.requires.begun in
    let k = c.args.states.now.ok.0 in
    omega arith

pub move_first-requires-clause-place : goal.move_first-requires-clause-place
move_first-requires-clause-place g c = only_inside (g.A.Analysis.rules c.args.analysis.now) (g.G.Edges.rows c.args.graph.now) c.args.states.now.items c.args.todo.now.items c.args.i c.args.j c.args.out c.requires.fits c.requires.only c.requires.begun

pub carry_there-requires-clause-place : goal.carry_there-requires-clause-place
carry_there-requires-clause-place g c = only_inside (g.A.Analysis.rules c.args.analysis.now) (g.G.Edges.rows c.args.graph.now) c.args.states.now.items c.args.todo.now.items c.args.i c.args.j c.args.out c.requires.fits c.requires.only c.requires.begun

pub returns-in-None-clause-searching : goal.returns-in-None-clause-searching
returns-in-None-clause-searching g c =
    only_spread (g.A.Analysis.rules c.args.analysis.now) (g.G.Edges.rows c.args.graph.now) c.args.states.now.items c.move_first.new.states.items c.args.todo.now.items (c.args.todo.now.items ++ c.args.j ∷ []) c.args.i c.args.j c.args.out
    c.requires.fits c.requires.only c.requires.begun (c.move_first.ensures c.args.todo.now.items)

pub returns-in-None-clause-paid : goal.returns-in-None-clause-paid
returns-in-None-clause-paid g c =
    let p = only_paid (g.A.Analysis.rules c.args.analysis.now) (length) (g.G.Edges.rows c.args.graph.now) c.args.states.now.items c.move_first.new.states.items c.args.todo.now.items (c.args.todo.now.items ++ c.args.j ∷ []) c.args.i c.args.j c.args.out
    c.requires.fits c.requires.only c.requires.begun (c.move_first.ensures c.args.todo.now.items) in
    let t = c.tick.ensures in
    omega arith

pub returns-in-None-clause-fewer : goal.returns-in-None-clause-fewer
returns-in-None-clause-fewer g c =
    only_paid (g.A.Analysis.rules c.args.analysis.now) (λ _. 1) (g.G.Edges.rows c.args.graph.now) c.args.states.now.items c.move_first.new.states.items c.args.todo.now.items (c.args.todo.now.items ++ c.args.j ∷ []) c.args.i c.args.j c.args.out
    c.requires.fits c.requires.only c.requires.begun (c.move_first.ensures c.args.todo.now.items)

pub returns-in_ok-carry_there-in-Some-clause-searching : goal.returns-in_ok-carry_there-in-Some-clause-searching
returns-in_ok-carry_there-in-Some-clause-searching g c =
    only_spread (g.A.Analysis.rules c.args.analysis.now) (g.G.Edges.rows c.args.graph.now) c.args.states.now.items c.carry_there.new.states.items c.args.todo.now.items c.carry_there.new.todo.items c.args.i c.args.j c.args.out
    c.requires.fits c.requires.only c.requires.begun c.in_ok-carry_there-in-Some.ensures

pub returns-in_ok-carry_there-in-Some-clause-paid : goal.returns-in_ok-carry_there-in-Some-clause-paid
returns-in_ok-carry_there-in-Some-clause-paid g c =
    let p = only_paid (g.A.Analysis.rules c.args.analysis.now) (length) (g.G.Edges.rows c.args.graph.now) c.args.states.now.items c.carry_there.new.states.items c.args.todo.now.items c.carry_there.new.todo.items c.args.i c.args.j c.args.out
    c.requires.fits c.requires.only c.requires.begun c.in_ok-carry_there-in-Some.ensures in
    let t = c.tick.ensures in
    omega arith

pub returns-in_ok-carry_there-in-Some-clause-fewer : goal.returns-in_ok-carry_there-in-Some-clause-fewer
returns-in_ok-carry_there-in-Some-clause-fewer g c =
    only_paid (g.A.Analysis.rules c.args.analysis.now) (λ _. 1) (g.G.Edges.rows c.args.graph.now) c.args.states.now.items c.carry_there.new.states.items c.args.todo.now.items c.carry_there.new.todo.items c.args.i c.args.j c.args.out
    c.requires.fits c.requires.only c.requires.begun c.in_ok-carry_there-in-Some.ensures
