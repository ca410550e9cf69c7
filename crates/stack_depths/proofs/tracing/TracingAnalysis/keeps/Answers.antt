use Rattle.stack_depths.specs.States.{depth_rules}
use Rattle.stack_depths.proofs.DepthLemmas.{met_case}
use Rattle.stack_depths.proofs.tracing.TracingAnalysis.keeps.Goals as goal

pub returns : goal.returns
unfolding depth_rules
returns c = λ t. met_case c.args.state.now c.args.from.now c.args.state.now (c.loses_none.ensures t)
