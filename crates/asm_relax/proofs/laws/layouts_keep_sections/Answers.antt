-- By going through the items, and through the fields.
use Rattle.asm_relax.proofs.KeptSections.{sections_are_kept}
use Rattle.asm_relax.proofs.laws.layouts_keep_sections.Goals as goal

pub returns : goal.returns
returns c = sections_are_kept c.settled_is_placed.ensures.placed c.settled_is_placed.ensures.sized
