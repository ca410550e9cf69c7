-- The next term is added.
use Rattle.std.proofs.Common.{sym}
use Rattle.assigned_forms.proofs.ExpandingLemmas.{expanded_some}
use Rattle.assigned_forms.proofs.ExpansionLemmas.{expand_step, expand_end}
use Rattle.assigned_forms.proofs.expansions.Expansions.sum_of.Goals as goal

pub loop-term-init : goal.loop-term-init
loop-term-init c symbols forward exact some =
    rw (c.constant_form-made.ensures, c.constant.ensures, c.terms-terms.ensures.terms)
    (sym (expanded_some symbols (record { back = c.leads_is_decided.ensures.back; leads = c.leads_is_decided.ensures.leads }) forward c.args.form.now some))

pub loop-term-preserved : goal.loop-term-preserved
loop-term-preserved c symbols forward exact some =
    expand_step symbols c.args.self.now exact c.terms-terms.result.now c.loop-term.term-index c.term-item.result c.loop-term.made c.in_ok-made.made _
    c.loop-term-test.true c.term-item.is (rw c.of.ensures at c.in_ok-made.ensures) (c.loop-term.invariant symbols forward exact some)

pub returns : goal.returns
returns c symbols forward exact some =
    expand_end symbols c.args.self.now c.terms-terms.result.now c.loop-term.term-index c.loop-term.made _ c.loop-term-test.false
    (c.loop-term.invariant symbols forward exact some)
