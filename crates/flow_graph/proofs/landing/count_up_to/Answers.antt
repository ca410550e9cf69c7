-- Items in order are parted by a place.
use Rattle.std.proofs.Common.{rules}
use Rattle.std.proofs.lemmas.List.Sorted.{IsPartitionPoint-from_clause}
use Rattle.flow_graph.proofs.LandingLemmas.{parted, counted}
use Rattle.code_functions.specs.InOrder.{is_up_to}
use Rattle.flow_graph.proofs.landing.count_up_to.Goals as goal

pub returns : goal.returns
returns c =
    counted c.args.items.now c.args.place c.partition_point.result c.partition_point.ensures.bound
    (IsPartitionPoint-from_clause (λ item. is_up_to item.place c.args.place) c.args.items.now c.partition_point.result c.partition_point.ensures.partitioned
    (parted c.args.items.now c.args.place c.requires) (λ a b f k. search rules))
