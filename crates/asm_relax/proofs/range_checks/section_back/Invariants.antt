-- No item so far moves back.
use Rattle.std.proofs.Common.{◌≡◌, drop}
use Rattle.asm_relax.specs.RangeChecks.{first_back}
use Rattle.asm_relax.proofs.range_checks.section_back.Given as goal

abbrev pub invariant-loop-index : goal.invariant-loop-index
invariant-loop-index l = record { back : first_back l.items l.index (drop l.index l.items) ≡ first_back l.items 0 l.items }
