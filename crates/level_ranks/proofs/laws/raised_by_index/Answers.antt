-- Each lemma is one of what a round makes of a level.
use Rattle.level_ranks.proofs.RaisedLemmas.{raised_length, raised_at, raised_only}
use Rattle.level_ranks.proofs.laws.raised_by_index.Goals as goal

pub returns-clause-length : goal.returns-clause-length
returns-clause-length c = λ levels needs. raised_length levels needs

pub returns-clause-level : goal.returns-clause-level
returns-clause-level c = λ levels needs index inside. raised_at levels needs index inside

pub returns-clause-only : goal.returns-clause-only
returns-clause-only c = λ levels needs later long each. raised_only levels needs later long each
