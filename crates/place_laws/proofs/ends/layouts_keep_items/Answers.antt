use Rattle.place_laws.proofs.Keeping.{layouts_keep_items}
use Rattle.place_laws.proofs.ends.layouts_keep_items.Goals as goal

pub returns : goal.returns
returns c = layouts_keep_items c.layouts_keep_sections.ensures
