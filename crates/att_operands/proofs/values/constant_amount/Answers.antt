use Rattle.att_operands.proofs.AmountLemmas.{constant_is}
use Rattle.att_operands.proofs.values.constant_amount.Goals as goal

pub returns-clause-value : goal.returns-clause-value
returns-clause-value c = constant_is c.written_is_read.ensures c.read_is_written.ensures c.args.tokens.now c.args.at c.in_ok-front.front c.requires c.in_ok-front.ensures (c.stops_at.ensures c.if-not-stops_at.false)
