-- The laws of lower crates on which this one stands.
use Rattle.x86_table.specs.Reads.{ReadsOneWay}
use Rattle.x86_steps.specs.Acts.{EffectsHold, SupportedUsesAre}
use Rattle.x86_steps.specs.Fillings.{FillingsAreCovered}
use Rattle.x86_steps.specs.Leading.{FlowsHold}

pub record Given : Type 0 where
  pub one : ReadsOneWay
  pub holds : EffectsHold
  pub supported : SupportedUsesAre
  pub leads : FlowsHold
  pub covered : FillingsAreCovered
