-- The sections so far are not too large.
use Rattle.std.proofs.Common.{◌≡◌, drop}
use Rattle.asm_relax.specs.Faults.{first_of}
use Rattle.asm_relax.specs.RangeChecks.{large_section}
use Rattle.asm_relax.proofs.range_checks.first_large_section.Given as goal

abbrev pub invariant-loop-section : goal.invariant-loop-section
invariant-loop-section l = first_of large_section (drop l.section-index l.sections) ≡ first_of large_section l.sections
