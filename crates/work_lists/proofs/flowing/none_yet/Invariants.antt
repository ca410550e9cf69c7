use Rattle.std.proofs.Common.{◌≡◌, ℕ, length, get_or, None}
use Rattle.work_lists.proofs.flowing.none_yet.Given as goal

abbrev pub invariant-loop-item : goal.invariant-loop-item
invariant-loop-item g l =
    record {
      long : length l.states.items ≡ l.item;
      none : (k : ℕ) → get_or l.states.items k None ≡ None;
    }
