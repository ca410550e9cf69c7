use Rattle.std.proofs.Common.{◌≡◌, ◌+◌, ◌<◌, ◌≤◌, ℕ, true, false, get_or, length}
use Rattle.stack_facts.proofs.set_passing.entries_alone.Given as goal

abbrev pub invariant-loop-k : goal.invariant-loop-k
invariant-loop-k l = record {
  long : length l.out ≡ 6 + l.count;
  low : (k : ℕ) → k < l.k → get_or l.out k false ≡ true;
  high : (k : ℕ) → 6 ≤ k → get_or l.out k false ≡ false;
}
