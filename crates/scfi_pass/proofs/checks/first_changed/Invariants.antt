use Rattle.std.proofs.Common.{◌≡◌, ◌<◌, ℕ, true}
use Rattle.stack_facts.specs.Places.{is_saved}
use Rattle.stack_facts.specs.Facts.{entry}
use Rattle.scfi_pass.specs.Looking.{seen}
use Rattle.scfi_pass.proofs.checks.first_changed.Given as goal

abbrev pub invariant-loop-register : goal.invariant-loop-register
invariant-loop-register l = (q : ℕ) → is_saved q ≡ true → q < l.register → (seen l.looked).stands (entry q) ≡ true
