use Rattle.std.proofs.Common.{◌≡◌, ℕ, ◌<◌, ◌≤◌, false, get_or, length}
use Rattle.number_sets.proofs.sets.NumberSet.resized.Given as goal

abbrev pub invariant-loop-k : goal.invariant-loop-k
invariant-loop-k l =
    record {
      long : length l.out ≡ l.width;
      done : (k : ℕ) → k < l.k → get_or l.out k false ≡ get_or l.self k false;
      rest : (k : ℕ) → l.k ≤ k → get_or l.out k false ≡ false;
    }
