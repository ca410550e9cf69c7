-- No `.org` of the sections so far moves back.
use Rattle.std.proofs.Common.{◌≡◌, drop}
use Rattle.asm_relax.specs.Faults.{first_of}
use Rattle.asm_relax.specs.RangeChecks.{section_back}
use Rattle.asm_relax.proofs.range_checks.first_section_back.Given as goal

abbrev pub invariant-loop-section : goal.invariant-loop-section
invariant-loop-section l = first_of section_back (drop l.section-index l.sections) ≡ first_of section_back l.sections
