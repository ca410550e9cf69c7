use Rattle.std.proofs.Common.{◌<◌, length, arith}
use Rattle.stack_depths.specs.States.{distances_in}
use Rattle.stack_facts.specs.States.{fact_rules}
use Rattle.stack_facts.proofs.FactLemmas.{exact_facts, no_facts}
use Rattle.stack_facts.proofs.tables.words.Goals as goal

pub flow-requires-clause-some : goal.flow-requires-clause-some
flow-requires-clause-some g c = let n = c.walks_are_listed.ensures.count c.args.graph.now in let l = c.len.ensures in let t = c.if-len-eq0.false in omega arith

pub returns-clause-facts : goal.returns-clause-facts
returns-clause-facts g c =
    let l = c.len.ensures in
    let t = c.if-len-eq0.false in
    let n = c.args.graph.now in
    let some : 0 < length n = omega arith in
    exact_facts c.args.clauses n c.args.items.now (distances_in c.args.depths.now) c.args.slots.now c.in_ok-states.states.items (λ w j h. c.walks_are_listed.ensures.listed n w j h) (λ w j h. c.walks_are_listed.ensures.unlisted n w j some h) c.in_ok-states.ensures.exact

pub returns-clause-cost : goal.returns-clause-cost
unfolding fact_rules
returns-clause-cost g c = let a = c.in_ok-states.ensures.cost in omega arith

pub returns-then-len-eq0-clause-facts : goal.returns-then-len-eq0-clause-facts
returns-then-len-eq0-clause-facts g c = let l = c.len.ensures in let t = c.if-len-eq0.true in no_facts c.args.clauses c.args.graph.now c.args.items.now (distances_in c.args.depths.now) c.args.slots.now c.new.result.items (omega arith) c.new.ensures.items

pub flow-requires-clause-fits : goal.flow-requires-clause-fits
flow-requires-clause-fits g c = c.walks_are_listed.ensures.inside c.args.graph.now c.targets_are_inside.ensures
