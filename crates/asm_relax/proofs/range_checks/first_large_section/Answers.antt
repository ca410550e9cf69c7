-- One at a time.
use Rattle.std.proofs.Common.{sym, ◌∙◌}
use Rattle.asm_relax.specs.RangeChecks.{large_section}
use Rattle.asm_relax.proofs.FirstLemmas.{first_step, first_found, first_done}
use Rattle.asm_relax.proofs.range_checks.first_large_section.Goals as goal

pub returns-then-is_some : goal.returns-then-is_some
returns-then-is_some c =
    first_found large_section c.args.sections.now c.loop-section.section-index c.section-item.result c.large_section-found.result _
    c.loop-section-test.true c.section-item.is c.large_section-found.ensures (sym c.is_some.ensures ∙ c.if-is_some.true) c.loop-section.invariant

pub loop-section-preserved : goal.loop-section-preserved
loop-section-preserved c =
    first_step large_section c.args.sections.now c.loop-section.section-index c.section-item.result c.large_section-found.result _
    c.loop-section-test.true c.section-item.is c.large_section-found.ensures (sym c.is_some.ensures ∙ c.if-is_some.false) c.loop-section.invariant

pub returns : goal.returns
returns c = first_done large_section c.args.sections.now c.loop-section.section-index _ c.loop-section-test.false c.loop-section.invariant
