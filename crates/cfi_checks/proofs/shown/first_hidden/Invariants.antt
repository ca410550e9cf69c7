use Rattle.std.proofs.Common.{◌≡◌, ◌<◌, ℕ, true}
use Rattle.stack_facts.specs.Places.{is_saved}
use Rattle.scfi_pass.specs.Looking.{seen}
use Rattle.cfi_checks.specs.Rows.{rule_of}
use Rattle.cfi_checks.specs.Shown.{Shows}
use Rattle.cfi_checks.proofs.shown.first_hidden.Given as goal

abbrev pub invariant-loop-register : goal.invariant-loop-register
invariant-loop-register l = (q : ℕ) → is_saved q ≡ true → q < l.register → Shows (seen l.looked).stands q (rule_of l.row q)
