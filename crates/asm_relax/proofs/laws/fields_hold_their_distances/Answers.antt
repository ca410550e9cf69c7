-- The own place, moved by the width of the field, counts minus once.
use Rattle.asm_relax.proofs.ItemValueLemmas.{items_hold, settled_hold}
use Rattle.asm_relax.proofs.SettlingLemmas.{settled_within}
use Rattle.asm_relax.proofs.laws.fields_hold_their_distances.Goals as goal

pub returns-clause-levels : goal.returns-clause-levels
returns-clause-levels c = items_hold c.whole_stretches_cancel.ensures c.distances_are_values.ensures.value

pub returns-clause-settled : goal.returns-clause-settled
returns-clause-settled c =
    settled_hold (items_hold c.whole_stretches_cancel.ensures c.distances_are_values.ensures.value)
    (settled_within c.layouts_are_reached.ensures c.needs_stay_within_tops.ensures c.some_ranking.ensures)
