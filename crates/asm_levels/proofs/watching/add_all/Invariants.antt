-- Each block has an entry of the row, or one of the nodes that are left is above it.
use Rattle.std.proofs.Common.{◌≡◌, ◌+◌, ◌*◌, ◌<◌, ◌≤◌, ℕ, length}
use Rattle.std.specs.Prelude.{vec_len}
use Rattle.asm_levels.specs.Watching.{HaveMore, first_leaf}
use Rattle.asm_levels.proofs.TreeLemmas.{IsReached}
use Rattle.asm_levels.proofs.watching.add_all.Given as goal

abbrev pub invariant-loop-low : goal.invariant-loop-low
invariant-loop-low l = record {
  more : HaveMore (length l.all.rows.now) l.row l.fn.entries.rows.items l.fn.entries.nodes.items l.entries.rows.items l.entries.nodes.items l.entries.heads.items l.entries.links.items;
  heads : vec_len l.entries.heads ≡ vec_len l.fn.entries.heads;
  follows : l.entries.follows.items ≡ l.fn.entries.follows.items;
  some : 0 < l.low;
  bound : l.end ≤ 2 * first_leaf (length l.all.rows.now);
  entry : (block : ℕ) → l.first ≤ block → block ≤ l.last → IsReached l.entries.rows.items l.entries.nodes.items l.row (block + first_leaf (length l.all.rows.now)) l.low l.end;
}

abbrev pub decreases-loop-low : goal.decreases-loop-low
decreases-loop-low l = l.end
