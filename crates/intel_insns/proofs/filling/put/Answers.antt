-- What holds of the fields holds of the text.
use Rattle.att_insns.specs.InsnTexts.{InsnText, IsInsnOf}
use Rattle.intel_insns.specs.InsnTexts.{with_text}
use Rattle.intel_insns.proofs.Fillings.{by_fields}
use Rattle.intel_insns.proofs.filling.put.Goals as goal

pub returns : goal.returns
returns c = λ due text is read. by_fields (λ (t : InsnText). IsInsnOf c.put_text.new.insn (with_text text t)) c.args.insn.now due is (λ i d has. c.in_ok-put_text.ensures i d text has read)
