-- A register as an operand.
use Rattle.std.proofs.Common.{refl}
use Rattle.att_operands.specs.OperandTexts as operand
use Rattle.att_insns.specs.InsnTexts.{InsnText, IsInsnOf}
use Rattle.intel_insns.specs.InsnTexts.{with_text}
use Rattle.intel_insns.proofs.Fillings.{by_fields, register_put}
use Rattle.intel_insns.proofs.filling.put_register.Goals as goal

pub returns : goal.returns
returns c = λ due is. by_fields (λ (t : InsnText). IsInsnOf c.follow.new.insn (with_text (operand.register c.args.reg) t)) c.args.insn.now due is
    (λ i d has. register_put c.follow.new.insn c.args.insn.now c.args.reg i d (operand.register c.args.reg) (c.follow.ensures.values i d has) (c.follow.ensures.behind i d) refl)
