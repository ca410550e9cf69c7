use Rattle.std.proofs.Common.{◌≡◌, ◌<◌, ℕ, Some, false}
use Rattle.scfi_pass.specs.Faults.{is_beyond}
use Rattle.scfi_pass.specs.Looking.{seen}
use Rattle.scfi_pass.proofs.checks.is_far.Given as goal

abbrev pub invariant-loop-register : goal.invariant-loop-register
invariant-loop-register l = (q d : ℕ) → q < l.register → (seen l.looked).known q ≡ Some d → is_beyond d ≡ false
