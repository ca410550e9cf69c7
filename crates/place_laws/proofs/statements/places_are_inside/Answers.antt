use Rattle.place_laws.proofs.Sizes.{places_are_inside}
use Rattle.place_laws.proofs.statements.places_are_inside.Goals as goal

pub returns : goal.returns
returns c = places_are_inside c.ends_are_sizes.ensures c.layouts_keep_sections.ensures
