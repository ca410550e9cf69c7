-- The row of an item tells its level.
use Rattle.asm_relax.proofs.SettledRoom.{settled_room}
use Rattle.asm_relax.proofs.laws.settled_items_have_room.Goals as goal

pub returns : goal.returns
returns c =
    settled_room c.fields_hold_their_distances.ensures.levels c.items_have_room_for_their_values.ensures c.needs_stay_within_tops.ensures
    c.settled_by_the_ranking.ensures
