use Rattle.std.proofs.Common.{arith}
use Rattle.stack_depths.specs.States.{depth_rules}
use Rattle.stack_depths.proofs.DepthLemmas.{exact_distances, exact_reached, no_distances, none_reached}
use Rattle.stack_depths.proofs.tables.depths.Goals as goal

pub flow-requires-clause-some : goal.flow-requires-clause-some
flow-requires-clause-some g c = let n = c.walks_are_listed.ensures.count c.args.graph.now in let l = c.len.ensures in let t = c.if-len-eq0.false in omega arith

pub returns-clause-distances : goal.returns-clause-distances
returns-clause-distances g c = let l = c.len.ensures in let t = c.if-len-eq0.false in exact_distances c.args.graph.now c.args.items.now c.in_ok-states.states.items (omega arith) c.in_ok-states.ensures.exact

pub returns-clause-reached : goal.returns-clause-reached
returns-clause-reached g c = let l = c.len.ensures in let t = c.if-len-eq0.false in exact_reached c.args.graph.now c.args.items.now c.in_ok-states.states.items (omega arith) c.in_ok-states.ensures.exact

pub returns-clause-cost : goal.returns-clause-cost
unfolding depth_rules
returns-clause-cost g c = let a = c.in_ok-states.ensures.cost in omega arith

pub flow-requires-clause-fits : goal.flow-requires-clause-fits
flow-requires-clause-fits g c = c.walks_are_listed.ensures.inside c.args.graph.now c.targets_are_inside.ensures

pub returns-then-len-eq0-clause-distances : goal.returns-then-len-eq0-clause-distances
returns-then-len-eq0-clause-distances g c = let l = c.len.ensures in let t = c.if-len-eq0.true in no_distances c.args.graph.now c.args.items.now c.new.result.items (omega arith) c.new.ensures.items

pub returns-then-len-eq0-clause-reached : goal.returns-then-len-eq0-clause-reached
returns-then-len-eq0-clause-reached g c = let l = c.len.ensures in let t = c.if-len-eq0.true in none_reached c.args.graph.now c.new.result.items (omega arith) c.new.ensures.items
