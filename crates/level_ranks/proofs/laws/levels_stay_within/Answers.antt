-- By induction on the rounds.
use Rattle.level_ranks.proofs.RoundLemmas.{rounds_length, rounds_within}
use Rattle.level_ranks.proofs.laws.levels_stay_within.Goals as goal

pub returns-clause-items : goal.returns-clause-items
returns-clause-items c = λ need tops start levels count rounds. rounds_length need tops start levels count rounds

pub returns-clause-tops : goal.returns-clause-tops
returns-clause-tops c = λ need tops start levels count index rounds inside. rounds_within need tops start levels count index rounds inside
