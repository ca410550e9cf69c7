-- An immediate of one token.
use Rattle.std.proofs.Common.{◌∙◌, sym, map}
use Rattle.asm_base.specs.Tokens.{spelled}
use Rattle.att_operands.proofs.UsualOperands.{whole_immediate_is}
use Rattle.att_operands.proofs.usual.whole_immediate.Goals as goal

pub returns-clause-value : goal.returns-clause-value
returns-clause-value c =
    whole_immediate_is (map spelled c.args.tokens.now) c.args.at c.in_ok-found.found (sym c.mark_at.ensures.value ∙ c.if-mark_at-ne36.false)
    (sym c.ends_at.ensures ∙ c.if-not-ends_at.false) c.in_ok-found.ensures.next c.in_ok-found.ensures.value
