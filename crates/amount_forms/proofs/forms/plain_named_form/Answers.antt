use Rattle.std.proofs.Common.{Some, sym, ap, ◌∙◌}
use Rattle.asm_values.specs.PlacedBy.{placed_by}
use Rattle.amount_forms.proofs.NamedForms.{form_found}
use Rattle.amount_forms.proofs.forms.plain_named_form.Goals as goal

-- src/forms.rt
pub returns-in_ok-plain_form-in-Some-plain_of-clause-value : goal.returns-in_ok-plain_form-in-Some-plain_of-clause-value
returns-in_ok-plain_form-in-Some-plain_of-clause-value c =
    (form_found (placed_by c.args.assembler.now) c.args.bytes.now c.args.number c.index.result c.in-Some-plain_of.plain c.in_ok-plain_form-in-Some-plain_of.field-0
    c.texts_are_no_place.ensures c.symbols-symbols.result.now c.symbols-symbols.ensures (sym c.in-Some.ensures ∙ ap Some (sym c.index.ensures)) c.in-Some-plain_of.ensures c.in_ok-plain_form-in-Some-plain_of.ensures).0

-- src/forms.rt
pub returns-in_ok-plain_form-in-Some-plain_of-clause-free : goal.returns-in_ok-plain_form-in-Some-plain_of-clause-free
returns-in_ok-plain_form-in-Some-plain_of-clause-free c =
    (form_found (placed_by c.args.assembler.now) c.args.bytes.now c.args.number c.index.result c.in-Some-plain_of.plain c.in_ok-plain_form-in-Some-plain_of.field-0
    c.texts_are_no_place.ensures c.symbols-symbols.result.now c.symbols-symbols.ensures (sym c.in-Some.ensures ∙ ap Some (sym c.index.ensures)) c.in-Some-plain_of.ensures c.in_ok-plain_form-in-Some-plain_of.ensures).1
