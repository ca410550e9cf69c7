use Rattle.code_laws.proofs.Holding.{relocated_fields_are_held}
use Rattle.code_laws.proofs.relocated.relocated_fields_are_held.Goals as goal

pub returns : goal.returns
returns c =
    relocated_fields_are_held (record {
      layouts = c.layouts_keep_sections.ensures;
      counts = c.layouts_keep_counts.ensures;
      values = c.values_are_alone.ensures;
      room = c.settled_items_have_room.ensures;
    })
