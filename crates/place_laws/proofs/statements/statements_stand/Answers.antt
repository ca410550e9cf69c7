use Rattle.place_laws.proofs.Standing.{statements_stand}
use Rattle.place_laws.proofs.statements.statements_stand.Goals as goal

pub returns : goal.returns
returns c =
    statements_stand (record {
      keep = c.layouts_keep_items.ensures;
      grow = c.placing_grows.ensures;
      bare = c.instruction_stands.ensures;
      code = c.encoding_stands.ensures.put;
      jump = c.jumps_are_put.ensures;
    })
