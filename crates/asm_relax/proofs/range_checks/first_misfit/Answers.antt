-- One at a time.
use Rattle.std.proofs.Common.{sym, ◌∙◌}
use Rattle.asm_relax.specs.RangeChecks.{section_misfit}
use Rattle.asm_relax.proofs.FirstLemmas.{first_step, first_found, first_done}
use Rattle.asm_relax.proofs.range_checks.first_misfit.Goals as goal

pub returns-then-is_some : goal.returns-then-is_some
returns-then-is_some c =
    first_found (section_misfit c.args.symbols.now c.args.sections.now) c.as_slice-all.result.now c.loop-section.section-index c.section-item.result c.section_misfit-found.result _
    c.loop-section-test.true c.section-item.is c.section_misfit-found.ensures (sym c.is_some.ensures ∙ c.if-is_some.true) c.loop-section.invariant

pub loop-section-preserved : goal.loop-section-preserved
loop-section-preserved c =
    first_step (section_misfit c.args.symbols.now c.args.sections.now) c.as_slice-all.result.now c.loop-section.section-index c.section-item.result c.section_misfit-found.result _
    c.loop-section-test.true c.section-item.is c.section_misfit-found.ensures (sym c.is_some.ensures ∙ c.if-is_some.false) c.loop-section.invariant

pub returns : goal.returns
returns c = first_done (section_misfit c.args.symbols.now c.args.sections.now) c.as_slice-all.result.now c.loop-section.section-index _ c.loop-section-test.false c.loop-section.invariant
