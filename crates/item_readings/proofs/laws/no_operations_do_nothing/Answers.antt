use Rattle.item_readings.proofs.Padding.{nothing}
use Rattle.item_readings.proofs.laws.no_operations_do_nothing.Goals as goal

pub returns : goal.returns
returns c = nothing c.padding_does_nothing.ensures.padding c.padding_does_nothing.ensures.filled c.padding_does_nothing.ensures.long
