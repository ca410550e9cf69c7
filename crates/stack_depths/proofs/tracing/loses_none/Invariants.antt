use Rattle.std.proofs.Common.{◌≡◌, ◌<◌, ℕ}
use Rattle.stack_depths.specs.States.{known, meet_of}
use Rattle.stack_depths.proofs.tracing.loses_none.Given as goal

abbrev pub invariant-loop-q : goal.invariant-loop-q
invariant-loop-q l = (q : ℕ) → q < l.q → known l.state q ≡ meet_of (known l.state q) (known l.from q)
