-- Each operand is put behind the others.
use Rattle.std.proofs.Common.{subst}
use Rattle.att_operands.specs.declared.operands.ReadOperand.{ReadOperand}
use Rattle.att_operands.specs.OperandTexts.{IsOperandOf}
use Rattle.intel_insns.proofs.Fillings.{register_put, immediate_put, memory_put, target_put}
use Rattle.intel_insns.proofs.filling.put_text.Goals as goal

pub returns-in-Register : goal.returns-in-Register
returns-in-Register c = λ i d text has is.
    register_put c.follow.new.insn c.args.insn.now c.in-Register.reg i d text (c.follow.ensures.values i d has) (c.follow.ensures.behind i d)
    (subst (λ (o : ReadOperand). IsOperandOf o text) c.in-Register.is is)

pub returns-in_ok-hold_value-in-Immediate : goal.returns-in_ok-hold_value-in-Immediate
returns-in_ok-hold_value-in-Immediate c = λ i d text has is.
    immediate_put c.follow-in-Immediate.new.insn c.args.insn.now c.in-Immediate.value c.hold_value.new.held c.has_immediate-there.result i d text c.has_immediate-there.ensures
    c.in_ok-hold_value-in-Immediate.ensures (c.follow-in-Immediate.ensures.values i d has) (c.follow-in-Immediate.ensures.behind i d)
    (subst (λ (o : ReadOperand). IsOperandOf o text) c.in-Immediate.is is)

pub returns-in_ok-hold_value-in-Memory : goal.returns-in_ok-hold_value-in-Memory
returns-in_ok-hold_value-in-Memory c = λ i d text has is.
    memory_put c.follow-in-Memory.new.insn c.args.insn.now c.in-Memory.address c.in-Memory.displacement c.hold_value-in-Memory.new.held c.has_displacement-there.result i d text c.has_displacement-there.ensures
    c.in_ok-hold_value-in-Memory.ensures (c.follow-in-Memory.ensures.values i d has) (c.follow-in-Memory.ensures.behind i d)
    (subst (λ (o : ReadOperand). IsOperandOf o text) c.in-Memory.is is)

pub returns-in_ok-hold_value-in-Target : goal.returns-in_ok-hold_value-in-Target
returns-in_ok-hold_value-in-Target c = λ i d text has is.
    target_put c.follow-in-Target.new.insn c.args.insn.now c.in-Target.value c.hold_value-in-Target.new.held c.has_displacement-there-in-Target.result i d text c.has_displacement-there-in-Target.ensures
    c.in_ok-hold_value-in-Target.ensures (c.follow-in-Target.ensures.values i d has) (c.follow-in-Target.ensures.behind i d)
    (subst (λ (o : ReadOperand). IsOperandOf o text) c.in-Target.is is)
