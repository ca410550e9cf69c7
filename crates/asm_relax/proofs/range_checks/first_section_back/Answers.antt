-- One at a time.
use Rattle.std.proofs.Common.{sym, ◌∙◌}
use Rattle.asm_relax.specs.RangeChecks.{section_back}
use Rattle.asm_relax.proofs.FirstLemmas.{first_step, first_found, first_done}
use Rattle.asm_relax.proofs.range_checks.first_section_back.Goals as goal

pub returns-then-is_some : goal.returns-then-is_some
returns-then-is_some c =
    first_found section_back c.args.sections.now c.loop-section.section-index c.section-item.result c.section_back-found.result _
    c.loop-section-test.true c.section-item.is c.section_back-found.ensures (sym c.is_some.ensures ∙ c.if-is_some.true) c.loop-section.invariant

pub loop-section-preserved : goal.loop-section-preserved
loop-section-preserved c =
    first_step section_back c.args.sections.now c.loop-section.section-index c.section-item.result c.section_back-found.result _
    c.loop-section-test.true c.section-item.is c.section_back-found.ensures (sym c.is_some.ensures ∙ c.if-is_some.false) c.loop-section.invariant

pub returns : goal.returns
returns c = first_done section_back c.args.sections.now c.loop-section.section-index _ c.loop-section-test.false c.loop-section.invariant
