-- None of the items so far begins late.
use Rattle.std.proofs.Common.{◌≡◌, ◌+◌, drop}
use Rattle.std.specs.List.{position_or_len}
use Rattle.asm_relax.specs.RangeChecks.{begins_late}
use Rattle.asm_relax.proofs.range_checks.begun_early.Given as goal

abbrev pub invariant-loop-index : goal.invariant-loop-index
invariant-loop-index l = position_or_len begins_late l.items ≡ l.index + position_or_len begins_late (drop l.index l.items)
