use Rattle.att_operands.proofs.AmountLemmas.{sum_is}
use Rattle.att_operands.proofs.values.sum_amount.Goals as goal

pub returns-clause-value : goal.returns-clause-value
returns-clause-value c =
    sum_is c.written_is_read.ensures c.read_is_written.ensures c.args.tokens.now c.args.at c.args.next _ c.in_ok-amount.amount c.requires.order c.requires.within c.in_ok-sum_operand.ensures (c.stops_at.ensures c.if-not-stops_at.false) c.in_ok-amount.ensures
