-- The first sections are so, and placing keeps it.
use Rattle.asm_place.proofs.GrowthLemmas.{nothing_within}
use Rattle.asm_place.proofs.PlacingLaws.{all_within}
use Rattle.asm_place.proofs.laws.placing_within.Goals as goal

pub returns-clause-begins : goal.returns-clause-begins
returns-clause-begins c = nothing_within

pub returns-clause-kept : goal.returns-clause-kept
returns-clause-kept c = all_within (record { frames = c.frame_directives_keep_all_else.ensures; rows = c.line_directives_keep_all_else.ensures.rows; files = c.line_directives_keep_all_else.ensures.files }) c.puts_stay_within.ensures
