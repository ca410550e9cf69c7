-- The rows so far are forgotten.
use Rattle.std.proofs.Common.{◌≡◌, ◌<◌, ℕ, length, get_or}
use Rattle.row_plans.proofs.looking.forget.Given as goal

abbrev pub invariant-loop-index : goal.invariant-loop-index
invariant-loop-index l = record {
  many : length l.seen ≡ length l.fn.seen;
  unseen : (at : ℕ) → at < l.index → get_or l.seen at 0 ≡ 0;
}
