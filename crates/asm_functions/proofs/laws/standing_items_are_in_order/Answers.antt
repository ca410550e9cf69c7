use Rattle.asm_functions.proofs.OrderLemmas.{items_ordered}
use Rattle.asm_functions.proofs.laws.standing_items_are_in_order.Goals as goal

pub returns : goal.returns
returns c = items_ordered
