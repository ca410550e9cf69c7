use Rattle.std.proofs.Common.{arith}
use Rattle.stack_depths.proofs.WayLemmas.{count_of}
use Rattle.stack_depths.proofs.ways.WaysEdges.succ.Goals as goal

pub succ-requires : goal.succ-requires
succ-requires c = let n = count_of c.args.self.now.graph.now in let h = c.requires in omega arith
