-- The nodes above the rows so far were looked at.
use Rattle.std.proofs.Common.{◌≡◌, ◌≤◌, ℕ, List, length, get_or}
use Rattle.asm_levels.specs.Watching.{IsTouched}
use Rattle.row_plans.specs.Looking.{IsPartlyLooked, ArePassed}
use Rattle.row_plans.proofs.looking.look_touched.Given as goal

abbrev pub invariant-loop-row : goal.invariant-loop-row
invariant-loop-row g l = record {
  part : (old : List ℕ) (start : ℕ) → IsPartlyLooked l.view.rows.now l.view.shifts.now old l.fn.levels l.fn.seen l.fn.risen l.view.round 0 start l.fn.steps
      → IsPartlyLooked l.view.rows.now l.view.shifts.now old l.levels l.seen l.risen l.view.round l.count start l.steps;
  done : (row : ℕ) → IsTouched (length l.view.rows.now) l.entries.rows.items l.entries.nodes.items l.entries.follows.items l.row-index l.touched row → get_or l.seen row 0 ≡ l.view.round;
  passed : ArePassed l.entries.rows.items l.entries.nodes.items l.entries.follows.items l.seen l.passed l.view.round;
  stamps : (at : ℕ) → get_or l.passed at 0 ≤ l.view.round;
  many_passed : length l.passed ≡ length l.fn.passed;
  many_levels : length l.levels ≡ length l.fn.levels;
  many_seen : length l.seen ≡ length l.fn.seen;
  room : length l.risen ≡ length l.fn.risen;
}
