use Rattle.function_laws.proofs.Beginning.{starts_are_addresses}
use Rattle.function_laws.proofs.addresses.starts_are_addresses.Goals as goal

pub returns : goal.returns
returns c =
    starts_are_addresses (record {
      joined = c.items_are_joined.ensures.whole;
      steps = record {
        followed = c.following_is_placing.ensures.placed;
        grow = c.placing_grows.ensures;
        stand_first = c.places_stand.ensures.begins;
        stand = c.places_stand.ensures.kept;
        labels = c.labels_change_symbols.ensures;
      };
      inside = c.places_are_inside.ensures;
      spots = c.spots_are_addresses.ensures;
      low = c.layouts_are_low.ensures;
    })
