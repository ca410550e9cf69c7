use Rattle.std.proofs.Common.{◌≡◌, ◌<◌, ℕ, true}
use Rattle.stack_facts.specs.Places.{is_saved}
use Rattle.scfi_pass.specs.Faults.{IsLost}
use Rattle.scfi_pass.specs.Looking.{seen}
use Rattle.scfi_pass.proofs.checks.first_lost.Given as goal

abbrev pub invariant-loop-register : goal.invariant-loop-register
invariant-loop-register l = (q : ℕ) → is_saved q ≡ true → q < l.register → IsLost (seen l.looked).stands q → ⊥
