use Rattle.target_laws.proofs.JumpRooms.{jumps_have_room}
use Rattle.target_laws.proofs.rooms.jumps_have_room.Goals as goal

pub returns : goal.returns
returns c =
    jumps_have_room (record {
      layouts = c.layouts_keep_sections.ensures;
      low = c.layouts_are_low.ensures;
      room = c.settled_items_have_room.ensures;
    })
