-- What holds of the fields holds of the text.
use Rattle.att_insns.specs.InsnTexts.{InsnText}
use Rattle.att_insns.specs.Reading.{Makes}
use Rattle.intel_insns.specs.Sizes.{sized}
use Rattle.intel_insns.proofs.Fillings.{by_fields}
use Rattle.intel_insns.proofs.sizes.give_size.Goals as goal

pub returns : goal.returns
returns c = λ due is. by_fields (λ (t : InsnText). Makes c.size_text.new.insn c.size_text.result (sized c.args.bits t)) c.args.insn.now due is c.size_text.ensures
