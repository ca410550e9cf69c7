use Rattle.std.proofs.Common.{◌≡◌, ℕ, ◌<◌, ◌≤◌, true, false, sum_by, get_or, None}
use Rattle.stack_depths.specs.States.{known, meet_of, held}
use Rattle.stack_depths.proofs.tracing.meet_all.Given as goal

abbrev pub invariant-loop-q : goal.invariant-loop-q
invariant-loop-q l =
    record {
      done : (q : ℕ) → q < l.q → known l.into q ≡ meet_of (known l.fn.into q) (known l.from q);
      rest : (q : ℕ) → l.q ≤ q → get_or l.into q None ≡ get_or l.fn.into q None;
      no_more : sum_by held l.into ≤ sum_by held l.fn.into;
      less : l.changed ≡ true → sum_by held l.into < sum_by held l.fn.into;
      same : l.changed ≡ false → l.into ≡ l.fn.into;
    }
