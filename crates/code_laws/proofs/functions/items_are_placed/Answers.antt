use Rattle.code_laws.proofs.Placing.{items_are_placed}
use Rattle.code_laws.proofs.functions.items_are_placed.Goals as goal

pub returns : goal.returns
returns c =
    items_are_placed (record {
      grow = c.placing_grows.ensures;
      begins = c.placing_within.ensures.begins;
      kept = c.placing_within.ensures.kept;
      stand_first = c.places_stand.ensures.begins;
      stand = c.places_stand.ensures.kept;
      following = c.following_is_placing.ensures.placed;
      labels = c.labels_change_symbols.ensures;
      bare = c.statements_split.ensures.bare;
      two = c.statements_split.ensures.statement;
    })
