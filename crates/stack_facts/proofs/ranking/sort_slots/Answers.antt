use Rattle.stack_facts.specs.Ranks.{rank_of}
use Rattle.std.proofs.lemmas.List.Sorted.{IsNonDecreasingBy-from_sort_by}
use Rattle.std.proofs.Common.{rules}
use Rattle.stack_facts.proofs.RankLemmas.{moved_all, moved_may}
use Rattle.stack_facts.proofs.ranking.sort_slots.Goals as goal

pub returns-clause-sorted : goal.returns-clause-sorted
returns-clause-sorted c = IsNonDecreasingBy-from_sort_by rank_of _ c.sort_unstable_by.ensures.sorted (λ a r f h. search rules)

pub returns-clause-all : goal.returns-clause-all
returns-clause-all c = moved_all c.args.found.now.items c.sort_unstable_by.new.self.items c.sort_unstable_by.ensures.permutation

pub returns-clause-may : goal.returns-clause-may
returns-clause-may c = moved_may c.args.found.now.items c.sort_unstable_by.new.self.items c.sort_unstable_by.ensures.permutation
