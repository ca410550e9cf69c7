-- What holds of the fields holds of the text.
use Rattle.att_insns.specs.InsnTexts.{InsnText, IsInsnOf}
use Rattle.att_insns.specs.Rules.{ruled}
use Rattle.att_insns.proofs.Fillings.{by_fields}
use Rattle.att_insns.proofs.rules.apply.Goals as goal

pub returns : goal.returns
returns c = λ due is. by_fields (λ (t : InsnText). IsInsnOf c.apply_text.new.insn (ruled c.args.rule t)) c.args.insn.now due is c.apply_text.ensures
