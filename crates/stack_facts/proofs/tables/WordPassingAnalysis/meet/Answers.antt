use Rattle.stack_facts.specs.States.{fact_rules, fact_of}
use Rattle.stack_facts.proofs.FactLemmas.{met}
use Rattle.stack_facts.proofs.tables.WordPassingAnalysis.meet.Goals as goal

pub returns-clause-holds : goal.returns-clause-holds
unfolding fact_rules
returns-clause-holds c = λ f. met c.args.self.now.slots.now c.args.into.now c.args.from.now c.meet.new.self c.meet.ensures.both (fact_of f)

pub returns-clause-less : goal.returns-clause-less
unfolding fact_rules
returns-clause-less c = c.meet.ensures.less
