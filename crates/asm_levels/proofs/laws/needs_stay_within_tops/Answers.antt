-- By the lemma on tops.
use Rattle.asm_levels.proofs.TopLemmas.{need_within}
use Rattle.asm_levels.proofs.laws.needs_stay_within_tops.Goals as goal

pub returns : goal.returns
returns c = need_within
