-- The rows behind those that are left are at their highest level.
use Rattle.std.proofs.Common.{◌-◌, ◌<◌, ◌≤◌, ℕ, length, get_or}
use Rattle.asm_levels.specs.Watching.{AreHighest, HaveSameRows}
use Rattle.row_plans.proofs.looking.put_highest_last.Given as goal

abbrev pub invariant-loop-at : goal.invariant-loop-at
invariant-loop-at l = record {
  order : l.at ≤ l.left;
  bound : l.left ≤ length l.list;
  inside : (at : ℕ) → at < length l.list → get_or l.list at 0 < length l.rows;
  highest : AreHighest l.rows l.levels l.left l.list;
  same_rows : HaveSameRows l.fn.list l.list;
}

abbrev pub decreases-loop-at : goal.decreases-loop-at
decreases-loop-at l = l.left - l.at
