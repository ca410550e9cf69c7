-- Where nothing can cancel, the form stays.
use Rattle.std.proofs.Common.{sym, ap, ◌∙◌}
use Rattle.asm_expr.specs.Settled.{cannot_cancel}
use Rattle.asm_relax.specs.Final.{final_told, laid_value}
use Rattle.asm_relax.proofs.LoneTerms.{value_stays}
use Rattle.asm_relax.proofs.finals.laid_value.Goals as goal

pub returns-then-cannot_cancel : goal.returns-then-cannot_cancel
unfolding laid_value
returns-then-cannot_cancel c =
    let form = c.args.form.now in
    c.constant_left.ensures
    ∙ value_stays (final_told c.args.symbols.now c.args.sections.now) form.terms form.constant (sym (ap cannot_cancel c.terms-terms.ensures.terms) ∙ sym c.cannot_cancel.ensures ∙ c.if-cannot_cancel.true)
