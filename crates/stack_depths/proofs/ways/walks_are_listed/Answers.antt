use Rattle.stack_depths.proofs.WayLemmas.{inside_lists}
use Rattle.stack_depths.proofs.ways.walks_are_listed.Goals as goal

pub returns-clause-inside : goal.returns-clause-inside
returns-clause-inside c = inside_lists
