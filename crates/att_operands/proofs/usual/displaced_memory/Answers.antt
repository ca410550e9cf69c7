-- Memory behind a displacement of one token.
use Rattle.std.proofs.Common.{◌∙◌, sym, map}
use Rattle.asm_base.specs.Tokens.{spelled}
use Rattle.att_operands.proofs.UsualOperands.{displaced_memory_is}
use Rattle.att_operands.proofs.usual.displaced_memory.Goals as goal

pub returns-clause-value : goal.returns-clause-value
returns-clause-value c =
    displaced_memory_is (map spelled c.args.tokens.now) c.args.at c.in_ok-found.found c.in_ok-place.place (sym c.opens_address.ensures.value ∙ c.if-opens_address.false)
    (sym c.begins_value.ensures.value ∙ c.if-not-begins_value.false) (sym c.mark_at.ensures.value ∙ c.if-mark_at-ne40.false) c.in_ok-found.ensures.next c.in_ok-found.ensures.value
    (sym c.in_ok-place.ensures.value) (sym c.ends_at.ensures ∙ c.if-not-ends_at.false)
