-- One at a time.
use Rattle.std.proofs.Common.{None, refl, sym, ◌∙◌}
use Rattle.asm_relax.specs.RangeChecks.{field_misfit}
use Rattle.asm_relax.proofs.FirstLemmas.{first_step, first_found, first_done}
use Rattle.asm_relax.proofs.range_checks.section_misfit.Goals as goal

pub returns-then-is_some : goal.returns-then-is_some
returns-then-is_some c =
    first_found (field_misfit c.args.symbols.now c.args.sections.now) c.fields-fields.result.now c.loop-field.field-index c.field-item.result c.any_misfit-found.result _
    c.loop-field-test.true c.field-item.is c.any_misfit-found.ensures (sym c.is_some.ensures ∙ c.if-is_some.true) c.loop-field.invariant

pub loop-field-preserved-then-is_plain : goal.loop-field-preserved-then-is_plain
loop-field-preserved-then-is_plain c =
    first_step (field_misfit c.args.symbols.now c.args.sections.now) c.fields-fields.result.now c.loop-field.field-index c.field-item.result None _
    c.loop-field-test.true c.field-item.is (sym (c.is_plain.ensures c.if-is_plain.true)) refl c.loop-field.invariant

pub loop-field-preserved : goal.loop-field-preserved
loop-field-preserved c =
    first_step (field_misfit c.args.symbols.now c.args.sections.now) c.fields-fields.result.now c.loop-field.field-index c.field-item.result c.any_misfit-found.result _
    c.loop-field-test.true c.field-item.is c.any_misfit-found.ensures (sym c.is_some.ensures ∙ c.if-is_some.false) c.loop-field.invariant

pub returns : goal.returns
returns c = first_done (field_misfit c.args.symbols.now c.args.sections.now) c.fields-fields.result.now c.loop-field.field-index _ c.loop-field-test.false c.loop-field.invariant
