-- From the row on that is left the ends are there.
use Rattle.std.proofs.Common.{◌≡◌, ◌≤◌, length}
use Rattle.asm_levels.proofs.EndLemmas.{EndsFrom}
use Rattle.asm_levels.proofs.ends.ends_of.Given as goal

abbrev pub invariant-loop-left : goal.invariant-loop-left
invariant-loop-left l = record {
  many : length l.ends.items ≡ length l.rows;
  bound : l.left ≤ length l.rows;
  from : EndsFrom l.rows l.ends.items l.left;
}

abbrev pub decreases-loop-left : goal.decreases-loop-left
decreases-loop-left l = l.left
