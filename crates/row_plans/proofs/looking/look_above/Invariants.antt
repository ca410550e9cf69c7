-- The nodes so far were looked at: those above the first one, or above one that was passed, that are not above the next one.
use Rattle.std.proofs.Common.{◌≡◌, ◌≤◌, ℕ, List, length, get_or}
use Rattle.asm_levels.specs.Watching.{IsAbove}
use Rattle.row_plans.specs.Looking.{IsPartlyLooked}
use Rattle.row_plans.proofs.PassLemmas.{IsLeft, AreLeft}
use Rattle.row_plans.proofs.looking.look_above.Given as goal

abbrev pub invariant-loop-node : goal.invariant-loop-node
invariant-loop-node g l = record {
  part : (old : List ℕ) (start : ℕ) → IsPartlyLooked l.view.rows.now l.view.shifts.now old l.fn.levels l.fn.seen l.fn.risen l.view.round l.fn.count start l.fn.steps
      → IsPartlyLooked l.view.rows.now l.view.shifts.now old l.levels l.seen l.risen l.view.round l.count start l.steps;
  bound : l.node ≤ l.leaf;
  done : (node : ℕ) → IsAbove node l.leaf → IsLeft l.entries.rows.items l.entries.nodes.items l.entries.follows.items l.seen l.view.round l.node node;
  walked : AreLeft l.entries.rows.items l.entries.nodes.items l.entries.follows.items l.seen l.passed l.view.round l.node;
  before : (at : ℕ) → at ≤ l.node → get_or l.passed at 0 ≡ get_or l.fn.passed at 0;
  stamps : ((at : ℕ) → get_or l.fn.passed at 0 ≤ l.view.round) → (at : ℕ) → get_or l.passed at 0 ≤ l.view.round;
  kept : (at : ℕ) → get_or l.fn.seen at 0 ≡ l.view.round → get_or l.seen at 0 ≡ l.view.round;
  many_levels : length l.levels ≡ length l.fn.levels;
  many_seen : length l.seen ≡ length l.fn.seen;
  many_passed : length l.passed ≡ length l.fn.passed;
  room : length l.risen ≡ length l.fn.risen;
}

abbrev pub decreases-loop-node : goal.decreases-loop-node
decreases-loop-node g l = l.node
