use Rattle.std.proofs.Common.{◌≡◌, ◌&&◌, nat_lt, ap, arith}
use Rattle.work_lists.specs.Exact.{Fact, says}
use Rattle.stack_depths.specs.Distances.{entry_distance}
use Rattle.stack_depths.specs.States.{depth_rules, known, is_number, lies}
use Rattle.stack_depths.proofs.DepthLemmas.{weight_of}
use Rattle.stack_depths.proofs.tracing.TracingAnalysis.enter.Goals as goal

pub returns-clause-holds : goal.returns-clause-holds
unfolding depth_rules
returns-clause-holds c = same
  where
    same : (f : Fact) → lies (known c.at_entry.result) f ≡ lies entry_distance f
    same (says q k) = ap (λ o. nat_lt q 7 && is_number o k) (c.at_entry.ensures.at q)

pub returns-clause-weight : goal.returns-clause-weight
unfolding depth_rules
returns-clause-weight c = let w = weight_of c.at_entry.result in let l = c.at_entry.ensures.long in omega arith
