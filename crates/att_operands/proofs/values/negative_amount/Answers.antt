use Rattle.std.proofs.Common.{◌∙◌, sym}
use Rattle.att_operands.proofs.NegativeNumbers.{negative_is}
use Rattle.att_operands.proofs.values.negative_amount.Goals as goal

pub returns-clause-value : goal.returns-clause-value
returns-clause-value c =
    negative_is c.written_is_read.ensures c.read_is_written.ensures c.leaves_are_single.ensures c.args.tokens.now c.args.at c.in_ok-number.number c.negated.result _ c.requires (sym c.mark_at.ensures.value ∙ c.if-mark_at-ne45.false) c.in_ok-number.ensures
    (c.stops_at.ensures c.if-not-stops_at.false) c.negated.ensures
