-- What holds of the fields holds of the text.
use Rattle.att_insns.specs.Reading.{Makes}
use Rattle.intel_insns.specs.InsnTexts.{FilledText}
use Rattle.intel_insns.specs.Rules.{meant_by}
use Rattle.intel_insns.proofs.Fillings.{by_filled}
use Rattle.intel_insns.proofs.rules.mean.Goals as goal

pub returns : goal.returns
returns c = λ due is. by_filled (λ (t : FilledText). Makes c.mean_text.new.insn c.mean_text.result (meant_by c.args.rule t)) c.args.insn.now c.args.bits due is c.mean_text.ensures
