use Rattle.loaded_laws.proofs.Counts.{layouts_keep_counts}
use Rattle.loaded_laws.proofs.beside.layouts_keep_counts.Goals as goal

pub returns : goal.returns
returns c = layouts_keep_counts c.layouts_keep_sections.ensures
