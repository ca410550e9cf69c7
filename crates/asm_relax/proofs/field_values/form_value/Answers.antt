-- Where nothing can cancel, the form stays.
use Rattle.std.proofs.Common.{sym, ap, ◌∙◌}
use Rattle.asm_expr.specs.Settled.{cannot_cancel}
use Rattle.asm_relax.specs.FieldValues.{told_in_field}
use Rattle.asm_relax.proofs.LoneTerms.{value_stays}
use Rattle.asm_relax.proofs.field_values.form_value.Goals as goal

pub returns-then-cannot_cancel : goal.returns-then-cannot_cancel
returns-then-cannot_cancel c =
    let field = c.args.field.now in
    let told = told_in_field c.args.symbols.now c.args.sections.now field in
    c.constant_left.ensures
    ∙ value_stays told field.form.terms field.form.constant (sym (ap cannot_cancel c.terms-terms.ensures.terms) ∙ sym c.cannot_cancel.ensures ∙ c.if-cannot_cancel.true)
