-- Either no term is seen, or all are.
use Rattle.std.proofs.Common.{length, sym, ap, ◌∙◌}
use Rattle.std.specs.Option.{option_map}
use Rattle.assigned_forms.specs.Opened.{opened}
use Rattle.assigned_forms.proofs.ExpansionLemmas.{begun_some, begun_none}
use Rattle.assigned_forms.proofs.expanding.begun.Goals as goal

pub returns-then-names_assigned-clause-value : goal.returns-then-names_assigned-clause-value
returns-then-names_assigned-clause-value c =
    let is = sym c.form_at.ensures ∙ ap (option_map (λ f. f.now)) c.unwrap-form.ensures in
    begun_some (opened c.args.view.symbols.now c.args.view.marks.now) (record { back = c.leads_is_decided.ensures.back; leads = c.leads_is_decided.ensures.leads }) c.none_leads_back.ensures c.args.at c.unwrap-form.result.now c.constant_form.result is
    (sym c.names_assigned.ensures ∙ c.if-names_assigned.true) (rw c.constant.ensures at c.constant_form.ensures)

pub returns-clause-value : goal.returns-clause-value
returns-clause-value c =
    let is = sym c.form_at.ensures ∙ ap (option_map (λ f. f.now)) c.unwrap-form.ensures in
    begun_none (opened c.args.view.symbols.now c.args.view.marks.now) c.args.at _ c.unwrap-form.result.now c.in_ok-made.made is
    (sym c.names_assigned.ensures ∙ c.if-names_assigned.false) c.in_ok-made.ensures (ap length c.terms.ensures.terms)
