use Rattle.std.proofs.lemmas.Result.{IfOk-weaker}
use Rattle.stack_facts.specs.States.{fact_rules, fact_of}
use Rattle.stack_facts.proofs.FactLemmas.{met}
use Rattle.stack_facts.proofs.tables.PassingAnalysis.meet.Goals as goal

pub returns-clause-holds : goal.returns-clause-holds
unfolding fact_rules
returns-clause-holds c = IfOk-weaker c.meet.result _ _
    (λ _ both f. met c.args.self.now.slots.now c.args.into.now c.args.from.now c.meet.new.self both (fact_of f))
    c.meet.ensures.both

pub returns-clause-less : goal.returns-clause-less
unfolding fact_rules
returns-clause-less c = c.meet.ensures.less
