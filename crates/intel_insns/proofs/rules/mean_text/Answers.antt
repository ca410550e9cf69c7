-- The rules that both syntaxes have.
use Rattle.std.proofs.Common.{refl}
use Rattle.x86_lookup.specs.declared.names.Rule.TheVariants as rule
use Rattle.att_insns.specs.InsnTexts.{text_of}
use Rattle.intel_insns.proofs.Fillings.{shared_by}
use Rattle.intel_insns.proofs.rules.mean_text.Goals as goal

pub returns-in-Predicate : goal.returns-in-Predicate
returns-in-Predicate c = λ i d has.
    shared_by (rule.Predicate c.in-Predicate.field-0) c.args.rule c.applied.new.insn c.applied.result (record { insn = text_of c.args.insn.now i d; bits = c.args.bits }) c.in-Predicate.is refl (c.applied.ensures i d has)

pub returns-in-ByOne : goal.returns-in-ByOne
returns-in-ByOne c = λ i d has.
    shared_by rule.ByOne c.args.rule c.applied-in-ByOne.new.insn c.applied-in-ByOne.result (record { insn = text_of c.args.insn.now i d; bits = c.args.bits }) c.in-ByOne.is refl (c.applied-in-ByOne.ensures i d has)

pub returns-in-ByCl : goal.returns-in-ByCl
returns-in-ByCl c = λ i d has.
    shared_by rule.ByCl c.args.rule c.applied-in-ByCl.new.insn c.applied-in-ByCl.result (record { insn = text_of c.args.insn.now i d; bits = c.args.bits }) c.in-ByCl.is refl (c.applied-in-ByCl.ensures i d has)

pub returns-in-OneForTwo : goal.returns-in-OneForTwo
returns-in-OneForTwo c = λ i d has.
    shared_by rule.OneForTwo c.args.rule c.applied-in-OneForTwo.new.insn c.applied-in-OneForTwo.result (record { insn = text_of c.args.insn.now i d; bits = c.args.bits }) c.in-OneForTwo.is refl (c.applied-in-OneForTwo.ensures i d has)

pub returns-in-MemoryFirst : goal.returns-in-MemoryFirst
returns-in-MemoryFirst c = λ i d has.
    shared_by rule.MemoryFirst c.args.rule c.applied-in-MemoryFirst.new.insn c.applied-in-MemoryFirst.result (record { insn = text_of c.args.insn.now i d; bits = c.args.bits }) c.in-MemoryFirst.is refl (c.applied-in-MemoryFirst.ensures i d has)

pub returns-in-AccumulatorFirst : goal.returns-in-AccumulatorFirst
returns-in-AccumulatorFirst c = λ i d has.
    shared_by rule.AccumulatorFirst c.args.rule c.applied-in-AccumulatorFirst.new.insn c.applied-in-AccumulatorFirst.result (record { insn = text_of c.args.insn.now i d; bits = c.args.bits }) c.in-AccumulatorFirst.is refl (c.applied-in-AccumulatorFirst.ensures i d has)

pub returns-in-WithXmm0 : goal.returns-in-WithXmm0
returns-in-WithXmm0 c = λ i d has.
    shared_by rule.WithXmm0 c.args.rule c.applied-in-WithXmm0.new.insn c.applied-in-WithXmm0.result (record { insn = text_of c.args.insn.now i d; bits = c.args.bits }) c.in-WithXmm0.is refl (c.applied-in-WithXmm0.ensures i d has)

pub returns-in-QuadIsMovq : goal.returns-in-QuadIsMovq
returns-in-QuadIsMovq c = λ i d has.
    shared_by rule.QuadIsMovq c.args.rule c.applied-in-QuadIsMovq.new.insn c.applied-in-QuadIsMovq.result (record { insn = text_of c.args.insn.now i d; bits = c.args.bits }) c.in-QuadIsMovq.is refl (c.applied-in-QuadIsMovq.ensures i d has)

pub returns-in-OrMove : goal.returns-in-OrMove
returns-in-OrMove c = λ i d has.
    shared_by rule.OrMove c.args.rule c.applied-in-OrMove.new.insn c.applied-in-OrMove.result (record { insn = text_of c.args.insn.now i d; bits = c.args.bits }) c.in-OrMove.is refl (c.applied-in-OrMove.ensures i d has)
