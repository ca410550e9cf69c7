-- The entries of the node behind those that are left were looked at.
use Rattle.std.proofs.Common.{◌≡◌, ◌+◌, ◌≤◌, ℕ, List, length, get_or}
use Rattle.row_plans.specs.Looking.{IsPartlyLooked}
use Rattle.row_plans.proofs.PartLemmas.{FromEntry}
use Rattle.row_plans.proofs.looking.look_node.Given as goal

abbrev pub invariant-loop-left : goal.invariant-loop-left
invariant-loop-left g l = record {
  part : (old : List ℕ) (start : ℕ) → IsPartlyLooked l.view.rows.now l.view.shifts.now old l.fn.levels l.fn.seen l.fn.risen l.view.round l.fn.count start l.fn.steps
      → IsPartlyLooked l.view.rows.now l.view.shifts.now old l.levels l.seen l.risen l.view.round l.count start l.steps;
  bound : l.left ≤ length l.entries.rows.items;
  here : FromEntry l.entries.rows.items l.entries.nodes.items l.entries.follows.items l.seen l.node l.view.round l.left;
  of_node : (at : ℕ) → at + 1 ≡ l.left → get_or l.entries.nodes.items at 0 ≡ l.node;
  kept : (at : ℕ) → get_or l.fn.seen at 0 ≡ l.view.round → get_or l.seen at 0 ≡ l.view.round;
  many_levels : length l.levels ≡ length l.fn.levels;
  many_seen : length l.seen ≡ length l.fn.seen;
  room : length l.risen ≡ length l.fn.risen;
}

abbrev pub decreases-loop-left : goal.decreases-loop-left
decreases-loop-left g l = l.left
