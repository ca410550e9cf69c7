-- Memory at an address, by its parts.
use Rattle.std.proofs.Common.{◌∙◌}
use Rattle.intel_operands.specs.declared.operands.FoundOperand.{FoundOperand}
use Rattle.intel_operands.proofs.UsualMemory.{shows}
use Rattle.intel_operands.proofs.usual.front_memory.Goals as goal

pub returns-in-Ok-clause-value : goal.returns-in-Ok-clause-value
returns-in-Ok-clause-value c =
    let made : FoundOperand = record { operand = c.in-Ok.field-0.operand; bits = c.in-Ok.field-0.bits; next = c.in_ok-found.found.next } in
    shows c.args.text.now c.args.bits c.in_ok-before.before c.in_ok-found.found.address made c.in_ok-before.ensures
    (λ is. c.if-mark_at-eq58.false (c.mark_at.ensures.value ∙ is)) c.in_ok-found.ensures.value c.in-Ok.ensures
