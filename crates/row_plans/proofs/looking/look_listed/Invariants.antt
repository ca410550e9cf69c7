-- The rows so far were looked at.
use Rattle.std.proofs.Common.{◌≡◌, ◌<◌, ℕ, List, length, get_or}
use Rattle.row_plans.specs.Looking.{IsPartlyLooked}
use Rattle.row_plans.proofs.looking.look_listed.Given as goal

abbrev pub invariant-loop-row : goal.invariant-loop-row
invariant-loop-row g l = record {
  part : (old : List ℕ) (start : ℕ) → IsPartlyLooked l.view.rows.now l.view.shifts.now old l.fn.levels l.fn.seen l.fn.risen l.view.round l.fn.count start l.fn.steps
      → IsPartlyLooked l.view.rows.now l.view.shifts.now old l.levels l.seen l.risen l.view.round l.count start l.steps;
  done : (at : ℕ) → at < l.row-index → get_or l.seen (get_or l.list at 0) 0 ≡ l.view.round;
  kept : (at : ℕ) → get_or l.fn.seen at 0 ≡ l.view.round → get_or l.seen at 0 ≡ l.view.round;
  many_levels : length l.levels ≡ length l.fn.levels;
  many_seen : length l.seen ≡ length l.fn.seen;
  room : length l.risen ≡ length l.fn.risen;
}
