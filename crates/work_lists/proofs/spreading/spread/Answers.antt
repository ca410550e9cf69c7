use Rattle.std.proofs.Common.{◌≡◌, ◌<◌, length, get_or, ap, arith}
use Rattle.work_lists.specs.Graphs.{row}
use Rattle.work_lists.proofs.SpreadLemmas.{spread_step, spread_ends, target_inside}
use Rattle.work_lists.proofs.ChargeLemmas.{carry_pays}
use Rattle.work_lists.proofs.spreading.spread.Goals as goal

pub loop-j-init : goal.loop-j-init
loop-j-init g c = record { begun = c.requires.begun; paid = omega arith; fewer = omega arith }

pub carry-requires-clause-place : goal.carry-requires-clause-place
carry-requires-clause-place g c =
    let i = c.loop-j.invariant in
    let n = g.G.Edges.rows c.args.graph.now in
    let short : c.loop-j.j-index < length (row n c.args.i) = let e = ap length c.requires.targets in let t = c.loop-j-test.true in omega arith in
    let e : get_or c.args.targets.now c.loop-j.j-index 0 ≡ get_or (row n c.args.i) c.loop-j.j-index 0 = ap (λ xs. get_or xs c.loop-j.j-index 0) c.requires.targets in
    target_inside (g.A.Analysis.rules c.args.analysis.now) n c.loop-j.states.items c.loop-j.todo.items c.args.i _ c.args.out.now c.loop-j.j-index c.requires.fits i.begun short e

pub loop-j-preserved : goal.loop-j-preserved
loop-j-preserved g c =
    let i = c.loop-j.invariant in
    let r = g.A.Analysis.rules c.args.analysis.now in
    let n = g.G.Edges.rows c.args.graph.now in
    let short : c.loop-j.j-index < length (row n c.args.i) = let e = ap length c.requires.targets in let t = c.loop-j-test.true in omega arith in
    let e : get_or c.args.targets.now c.loop-j.j-index 0 ≡ get_or (row n c.args.i) c.loop-j.j-index 0 = ap (λ xs. get_or xs c.loop-j.j-index 0) c.requires.targets in
    let inside = target_inside r n c.loop-j.states.items c.loop-j.todo.items c.args.i _ c.args.out.now c.loop-j.j-index c.requires.fits i.begun short e in
    let paid = carry_pays r (length) n c.loop-j.states.items c.carry.new.states.items c.loop-j.todo.items c.carry.new.todo.items _ c.args.out.now i.begun.long inside c.in_ok-carry.ensures in
    let fewer = carry_pays r (λ _. 1) n c.loop-j.states.items c.carry.new.states.items c.loop-j.todo.items c.carry.new.todo.items _ c.args.out.now i.begun.long inside c.in_ok-carry.ensures in
    record {
      begun = spread_step r n c.loop-j.states.items c.carry.new.states.items c.loop-j.todo.items c.carry.new.todo.items c.args.i _ c.args.out.now c.loop-j.j-index c.requires.fits i.begun short e c.in_ok-carry.ensures;
      paid = let a = i.paid in let t = c.tick.ensures in omega arith;
      fewer = let a = i.fewer in omega arith;
    }

pub returns-clause-searching : goal.returns-clause-searching
returns-clause-searching g c =
    let i = c.loop-j.invariant in
    let e = ap length c.requires.targets in
    spread_ends (g.A.Analysis.rules c.args.analysis.now) (g.G.Edges.rows c.args.graph.now) c.loop-j.states.items c.loop-j.todo.items c.args.i c.args.out.now c.loop-j.j-index i.begun (omega arith)

pub returns-clause-paid : goal.returns-clause-paid
returns-clause-paid g c = let i = c.loop-j.invariant in let e = ap length c.requires.targets in let a = i.paid in omega arith

pub returns-clause-fewer : goal.returns-clause-fewer
returns-clause-fewer g c = c.loop-j.invariant.fewer
