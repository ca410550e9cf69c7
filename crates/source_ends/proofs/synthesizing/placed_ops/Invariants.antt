-- The instructions so far, and those that are left, are all.
use Rattle.std.proofs.Common.{◌≡◌, ◌++◌, drop}
use Rattle.source_ends.specs.Synthesis.{placed_ops}
use Rattle.source_ends.proofs.synthesizing.placed_ops.Given as goal

abbrev pub invariant-loop-op : goal.invariant-loop-op
invariant-loop-op l = l.placed ++ placed_ops l.items (drop l.op-index l.ops) ≡ placed_ops l.items l.ops
