-- The fields so far hold their values.
use Rattle.std.proofs.Common.{◌≡◌, drop}
use Rattle.asm_relax.specs.Faults.{first_of}
use Rattle.asm_relax.specs.RangeChecks.{field_misfit, section_misfit}
use Rattle.asm_relax.proofs.range_checks.section_misfit.Given as goal

abbrev pub invariant-loop-field : goal.invariant-loop-field
invariant-loop-field l = first_of (field_misfit l.symbols l.sections) (drop l.field-index l.fields) ≡ section_misfit l.symbols l.sections l.section
