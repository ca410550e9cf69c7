use Rattle.att_operands.proofs.SuffixLemmas.{bare_is}
use Rattle.att_operands.proofs.values.bare_amount.Goals as goal

pub returns-clause-value : goal.returns-clause-value
returns-clause-value c =
    bare_is c.written_is_read.ensures c.read_is_written.ensures c.args.tokens.now c.args.at _ c.in_ok-amount.amount c.requires c.in_ok-sum_operand.ensures (c.stops_at.ensures c.if-not-stops_at.false) c.in_ok-amount.ensures
