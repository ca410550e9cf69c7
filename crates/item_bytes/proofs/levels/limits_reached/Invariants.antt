-- The value has reached all limits before the index.
use Rattle.std.proofs.Common.{◌≡◌, ◌+◌, drop}
use Rattle.item_bytes.specs.Levels.{limits_reached}
use Rattle.item_bytes.proofs.levels.limits_reached.Given as goal

abbrev pub invariant-loop-index : goal.invariant-loop-index
invariant-loop-index l = limits_reached l.value l.limits ≡ l.index + limits_reached l.value (drop l.index l.limits)
