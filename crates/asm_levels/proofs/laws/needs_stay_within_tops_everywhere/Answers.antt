-- The levels that are needed where the rows are moved so far.
use Rattle.asm_levels.proofs.TopLemmas.{levels-le}
use Rattle.asm_levels.proofs.laws.needs_stay_within_tops_everywhere.Goals as goal

pub returns : goal.returns
returns c = levels-le
