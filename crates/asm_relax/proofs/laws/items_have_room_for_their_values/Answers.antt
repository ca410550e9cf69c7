-- A row that needs no more than its level holds its distance, which is the value.
use Rattle.asm_relax.proofs.RoomLemmas.{have_room}
use Rattle.asm_relax.proofs.laws.items_have_room_for_their_values.Goals as goal

pub returns : goal.returns
returns c =
    have_room c.short_jumps_hold_a_signed_byte.ensures.short c.groups_hold_their_number.ensures.unsigned c.groups_hold_their_number.ensures.signed
    c.advances_hold_their_distance.ensures.holds c.fields_hold_their_distances.ensures.levels
