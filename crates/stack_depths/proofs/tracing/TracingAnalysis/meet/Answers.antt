use Rattle.stack_depths.specs.States.{depth_rules}
use Rattle.stack_depths.proofs.DepthLemmas.{met_case}
use Rattle.stack_depths.proofs.tracing.TracingAnalysis.meet.Goals as goal

pub returns-clause-holds : goal.returns-clause-holds
unfolding depth_rules
returns-clause-holds c = met_case c.args.into.now c.args.from.now c.meet_all.new.into c.meet_all.ensures.both

pub returns-clause-less : goal.returns-clause-less
unfolding depth_rules
returns-clause-less c = c.meet_all.ensures.less
