use Rattle.std.proofs.Common.{◌<◌, ◌≤◌, ℕ}
use Rattle.cfi_checks.specs.Places.{from_at}
use Rattle.cfi_checks.proofs.places.begun.Given as goal

abbrev pub invariant-loop-k : goal.invariant-loop-k
invariant-loop-k l = (m : ℕ) → m < l.k → (from_at l.rows m).item ≤ l.item
