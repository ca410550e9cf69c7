-- The tokens that are left fall, and what was read goes on as it began.
use Rattle.std.proofs.Common.{◌≡◌, ◌+◌, ◌*◌, ◌-◌, ◌<◌, ◌≤◌, length}
use Rattle.asm_expr.specs.Trees.{tree_of}
use Rattle.expr_texts.specs.Reading.{reading, reading_more}
use Rattle.expr_texts.specs.Found.{spelled_from, IsLow}
use Rattle.expr_texts.proofs.parsing.+parsing.Given as goal

abbrev pub decreases-read_at : goal.decreases-read_at
decreases-read_at g l = 2 * (length l.tokens.now - l.at) + 1

abbrev pub decreases-read_operand : goal.decreases-read_operand
decreases-read_operand g l = 2 * (length l.tokens.now - l.at)

abbrev pub invariant-read_at-loop-op : goal.invariant-read_at-loop-op
invariant-read_at-loop-op g l = record {
  value : reading l.level l.depth (spelled_from l.tokens l.at) ≡ reading_more l.level l.depth (tree_of l.left.expr) (spelled_from l.tokens l.left.next);
  low : IsLow l.left;
  later : l.at < l.left.next;
  within : l.left.next ≤ length l.tokens;
  by_tokens : l.steps + 2 * l.at < l.fn.steps + 2 * l.left.next;
}

abbrev pub decreases-read_at-loop-op : goal.decreases-read_at-loop-op
decreases-read_at-loop-op g l = length l.tokens - l.left.next
