-- The command has its two arguments.
use Rattle.std.proofs.Common.{◌∙◌, ap₂}
use Rattle.std.proofs.lemmas.Result.{IfOk-weaker}
use Rattle.clap.specs.Words.{with_rule}
use Rattle.dis_words.specs.Words.{asdis_app}
use Rattle.dis_words.proofs.words.asdis_command.Goals as goal

pub returns : goal.returns
unfolding asdis_app
returns c =
    let one = c.in_ok-arg.ensures.shape c.intel_flag-intel.ensures.local ∙ ap₂ with_rule c.new.ensures.app c.intel_flag-intel.ensures.rule in
    IfOk-weaker c.arg-2.result _ _ (λ r added. added.shape c.new-file.ensures.optional.1 ∙ ap₂ with_rule one c.new-file.ensures.rule) c.arg-2.ensures
