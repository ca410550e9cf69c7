use Rattle.std.proofs.Common.{◌<◌, ◌≤◌, ℕ, length}
use Rattle.cfi_checks.specs.Checks.{IsShownAt}
use Rattle.cfi_checks.specs.Places.{analyzed, IsHeld, from_at, last_of}
use Rattle.cfi_checks.proofs.checking.check_rows.Given as goal

abbrev pub invariant-loop-place : goal.invariant-loop-place
invariant-loop-place l = record {
  shown : (j : ℕ) → j < l.place → IsShownAt (analyzed l.checked) l.checked.rows.now j;
  within : l.at.begun ≤ length l.checked.rows.now;
  begun : (k : ℕ) → k < l.at.begun → (from_at l.checked.rows.now k).item ≤ l.place;
  held : IsHeld (analyzed l.checked) l.at.last (last_of l.checked.rows.now l.at.begun);
}
