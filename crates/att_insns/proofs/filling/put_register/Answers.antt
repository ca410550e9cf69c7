-- A register as an operand.
use Rattle.std.proofs.Common.{refl}
use Rattle.att_operands.specs.OperandTexts as operand
use Rattle.att_insns.specs.InsnTexts.{InsnText, IsInsnOf, with_operand}
use Rattle.att_insns.proofs.Fillings.{by_fields, register_put}
use Rattle.att_insns.proofs.filling.put_register.Goals as goal

pub returns : goal.returns
returns c = λ due is. by_fields (λ (t : InsnText). IsInsnOf c.lead.new.insn (with_operand (operand.register c.args.reg) t)) c.args.insn.now due is
    (λ i d has. rw c.lead.ensures (register_put c.args.insn.now c.args.reg i d (operand.register c.args.reg) has refl))
