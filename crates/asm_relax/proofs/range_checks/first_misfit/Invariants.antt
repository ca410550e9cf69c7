-- The sections so far have no fault.
use Rattle.std.proofs.Common.{◌≡◌, drop}
use Rattle.asm_relax.specs.Faults.{first_of}
use Rattle.asm_relax.specs.RangeChecks.{section_misfit}
use Rattle.asm_relax.proofs.range_checks.first_misfit.Given as goal

abbrev pub invariant-loop-section : goal.invariant-loop-section
invariant-loop-section l = first_of (section_misfit l.symbols l.sections) (drop l.section-index l.all) ≡ first_of (section_misfit l.symbols l.sections) l.sections
