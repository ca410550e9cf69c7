-- No rounds, and one more.
use Rattle.level_ranks.proofs.RoundLemmas.{no_rounds, one_more}
use Rattle.level_ranks.proofs.laws.one_round_more.Goals as goal

pub returns-clause-none : goal.returns-clause-none
returns-clause-none c = λ need tops start items lowest within. no_rounds need tops start items lowest within

pub returns-clause-more : goal.returns-clause-more
returns-clause-more c = λ need tops start levels later count rounds next rises. one_more need tops start levels later count rounds next rises
