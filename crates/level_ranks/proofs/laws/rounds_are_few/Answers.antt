-- Each of these rounds makes the sum of the levels greater, which is at most that of the tops.
use Rattle.level_ranks.proofs.RoundLemmas.{rounds_few}
use Rattle.level_ranks.proofs.laws.rounds_are_few.Goals as goal

pub returns : goal.returns
returns c = λ need tops start levels count rounds. rounds_few need tops start levels count rounds
