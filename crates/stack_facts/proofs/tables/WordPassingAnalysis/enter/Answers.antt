use Rattle.std.proofs.Common.{arith}
use Rattle.stack_facts.specs.States.{fact_rules, fact_of}
use Rattle.stack_facts.proofs.SetLemmas.{few_counted}
use Rattle.stack_facts.proofs.FactLemmas.{begins}
use Rattle.stack_facts.proofs.tables.WordPassingAnalysis.enter.Goals as goal

pub returns-clause-holds : goal.returns-clause-holds
unfolding fact_rules
returns-clause-holds c = λ f. begins c.args.self.now.slots.now c.six.result c.six.ensures.low c.six.ensures.high (fact_of f)

pub returns-clause-weight : goal.returns-clause-weight
unfolding fact_rules
returns-clause-weight c = let w = few_counted c.six.result 6 c.six.ensures.high in omega arith
