use Rattle.std.proofs.Common.{arith}
use Rattle.stack_depths.proofs.WayLemmas.{count_of}
use Rattle.stack_depths.proofs.ways.WaysEdges.only.Goals as goal

pub only-requires : goal.only-requires
only-requires c = let n = count_of c.args.self.now.graph.now in let h = c.requires in omega arith
