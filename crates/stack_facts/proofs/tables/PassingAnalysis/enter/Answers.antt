use Rattle.std.proofs.Common.{arith}
use Rattle.stack_facts.specs.States.{fact_rules, fact_of}
use Rattle.stack_facts.proofs.SetLemmas.{counted_at_most}
use Rattle.stack_facts.proofs.FactLemmas.{begins}
use Rattle.stack_facts.proofs.tables.PassingAnalysis.enter.Goals as goal

pub returns-clause-holds : goal.returns-clause-holds
unfolding fact_rules
returns-clause-holds c = λ f. begins c.args.self.now.slots.now c.in_ok-out.out c.in_ok-out.ensures.low c.in_ok-out.ensures.high (fact_of f)

pub returns-clause-weight : goal.returns-clause-weight
unfolding fact_rules
returns-clause-weight c = let w = counted_at_most c.in_ok-out.out in let l = c.in_ok-out.ensures.long in omega arith
