use Rattle.place_laws.proofs.Sizes.{ends_are_sizes}
use Rattle.place_laws.proofs.ends.ends_are_sizes.Goals as goal

pub returns : goal.returns
returns c = ends_are_sizes c.layouts_keep_sections.ensures c.sizes_add_up.ensures.item
