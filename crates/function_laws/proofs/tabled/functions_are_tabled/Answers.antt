use Rattle.function_laws.proofs.Tabling.{functions_are_tabled}
use Rattle.function_laws.proofs.tabled.functions_are_tabled.Goals as goal

pub returns : goal.returns
returns c =
    functions_are_tabled (record {
      joined = c.items_are_joined.ensures.whole;
      steps = record {
        followed = c.following_is_placing.ensures.placed;
        grow = c.placing_grows.ensures;
        stand_first = c.places_stand.ensures.begins;
        stand = c.places_stand.ensures.kept;
        labels = c.labels_change_symbols.ensures;
      };
      laid = c.functions_are_laid.ensures;
      numbers = c.insns_are_numbered.ensures;
      jumps = c.function_jumps_are_laid.ensures;
      inside = c.successors_are_items.ensures;
    })
