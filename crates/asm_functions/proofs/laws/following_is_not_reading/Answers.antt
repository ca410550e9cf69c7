use Rattle.asm_functions.proofs.FollowingLaws.{one_apart, all_apart}
use Rattle.asm_functions.proofs.laws.following_is_not_reading.Goals as goal

pub returns-clause-one : goal.returns-clause-one
returns-clause-one c = one_apart c.placing_is_not_reading.ensures

pub returns-clause-all : goal.returns-clause-all
returns-clause-all c = all_apart c.placing_is_not_reading.ensures
