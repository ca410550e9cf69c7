use Rattle.std.proofs.Common.{nat_lt, rules}
use Rattle.std.proofs.lemmas.List.Sorted.{IsPartitionPoint-from_clause}
use Rattle.stack_facts.specs.Ranks.{rank_at, rank_of}
use Rattle.stack_facts.proofs.RankLemmas.{parted, counted}
use Rattle.stack_facts.proofs.ranking.count_before.Goals as goal

pub returns : goal.returns
returns c =
    let rank = rank_at c.args.distance c.args.register in
    counted c.args.slots.now rank c.partition_point.result c.partition_point.ensures.bound
    (IsPartitionPoint-from_clause (λ s. nat_lt (rank_of s) rank) c.args.slots.now c.partition_point.result c.partition_point.ensures.partitioned
    (parted c.args.slots.now rank c.requires) (λ a b f k. search rules))
