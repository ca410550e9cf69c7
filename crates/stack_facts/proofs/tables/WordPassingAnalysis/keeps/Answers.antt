use Rattle.stack_facts.specs.States.{fact_rules, fact_of}
use Rattle.stack_facts.proofs.FactLemmas.{met}
use Rattle.stack_facts.proofs.tables.WordPassingAnalysis.keeps.Goals as goal

pub returns : goal.returns
unfolding fact_rules
returns c = λ t f. met c.args.self.now.slots.now c.args.state.now c.args.from.now c.args.state.now (c.is_within.ensures.within t) (fact_of f)
