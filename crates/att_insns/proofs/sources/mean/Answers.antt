-- What holds of the fields holds of the text.
use Rattle.att_insns.specs.InsnTexts.{InsnText}
use Rattle.att_insns.specs.Sources.{meant_by}
use Rattle.att_insns.specs.Reading.{Makes}
use Rattle.att_insns.proofs.Fillings.{by_fields}
use Rattle.att_insns.proofs.sources.mean.Goals as goal

pub returns : goal.returns
returns c = λ due is. by_fields (λ (t : InsnText). Makes c.mean_text.new.insn c.mean_text.result (meant_by c.args.rule t)) c.args.insn.now due is c.mean_text.ensures
