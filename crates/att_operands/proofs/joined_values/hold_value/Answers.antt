-- One of its kind is there.
use Rattle.att_operands.proofs.joined_values.hold_value.Goals as goal

pub returns-in_ok-join_value : goal.returns-in_ok-join_value
returns-in_ok-join_value c = rw c.if-there.true c.in_ok-join_value.ensures
