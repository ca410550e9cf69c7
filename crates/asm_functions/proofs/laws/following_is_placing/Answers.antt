-- Each statement leads on.
use Rattle.asm_functions.proofs.FollowingLaws.{all_placed, all_asked, unasked}
use Rattle.asm_functions.proofs.laws.following_is_placing.Goals as goal

pub returns-clause-placed : goal.returns-clause-placed
returns-clause-placed c = all_placed c.statements_split.ensures.statement

pub returns-clause-asked : goal.returns-clause-asked
returns-clause-asked c = all_asked c.statements_split.ensures.statement

pub returns-clause-unasked : goal.returns-clause-unasked
returns-clause-unasked c = unasked
