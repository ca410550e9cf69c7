use Rattle.stack_depths.specs.States.{distances_in}
use Rattle.stack_facts.proofs.GatherLemmas.{ranked_table}
use Rattle.stack_facts.proofs.gathering.gather.Goals as goal

pub returns-in_ok-slots-in-None-clause-table : goal.returns-in_ok-slots-in-None-clause-table
returns-in_ok-slots-in-None-clause-table c =
    ranked_table c.args.items.now (distances_in c.args.depths.now) c.in_ok-all-in-None.all.items c.in_ok-slots-in-None.slots.items c.in_ok-all-in-None.ensures.all c.in_ok-slots-in-None.ensures.all c.in_ok-slots-in-None.ensures.ranked
