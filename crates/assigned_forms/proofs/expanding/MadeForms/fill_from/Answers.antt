-- The last symbol of the way awaits another, which joins it, or has its form and leaves it.
use Rattle.std.proofs.Common.{◌++◌, [], ◌∷◌, refl, sym, ap, ◌∙◌}
use Rattle.assigned_forms.specs.Opened.{opened}
use Rattle.assigned_forms.proofs.ExpansionLemmas.{awaits_within}
use Rattle.assigned_forms.proofs.WayLemmas.{filling_start, last_within, last_inside, last_sum, filling_more, less_more, filling_less, less_less}
use Rattle.assigned_forms.proofs.expanding.MadeForms.fill_from.Goals as goal

pub way-init : goal.way-init
way-init c =
    filling_start (opened c.args.view.symbols.now c.args.view.marks.now) c.args.self.now c.push.new.self.items c.in_ok-begun.field-0 c.args.at c.requires.partly (sym c.awaits.ensures ∙ c.if-not-awaits.false)
    c.in_ok-begun.ensures.symbol c.in_ok-begun.ensures.value (c.in_ok-push.ensures.items ∙ ap (λ way. way ++ c.in_ok-begun.field-0 ∷ []) c.new-way.ensures.items)

pub advance-requires-clause-there : goal.advance-requires-clause-there
advance-requires-clause-there c =
    last_within (opened c.args.view.symbols.now c.args.view.marks.now) c.args.self.now c.way.self c.way.way.items c.pop.new.self.items c.in-Some.visit c.args.at c.way.invariant c.in-Some.ensures.items

pub advance-requires-clause-value : goal.advance-requires-clause-value
advance-requires-clause-value c =
    last_sum (opened c.args.view.symbols.now c.args.view.marks.now) c.args.self.now c.way.self c.way.way.items c.pop.new.self.items c.in-Some.visit c.args.at c.way.invariant c.in-Some.ensures.items

pub begun-requires-in-Some-awaited-clause-there : goal.begun-requires-in-Some-awaited-clause-there
begun-requires-in-Some-awaited-clause-there c =
    let awaited = rw c.in-Some-awaited.is at c.in_ok-visit.ensures.awaited in
    awaits_within (opened c.args.view.symbols.now c.args.view.marks.now) c.way.self c.in-Some-awaited.other awaited.missing

pub way-smaller-in_ok-push-in-Some-awaited-2 : goal.way-smaller-in_ok-push-in-Some-awaited-2
way-smaller-in_ok-push-in-Some-awaited-2 c =
    let awaited = rw c.in-Some-awaited.is at c.in_ok-visit.ensures.awaited in
    less_more (opened c.args.view.symbols.now c.args.view.marks.now) c.args.self.now c.way.self c.way.way.items c.pop.new.self.items c.in-Some.visit c.args.at c.way.invariant c.in-Some.ensures.items
    c.in_ok-visit.visit c.in_ok-visit.ensures.symbol (record { back = c.leads_is_decided.ensures.back; leads = c.leads_is_decided.ensures.leads }) c.none_leads_back.ensures c.in_ok-visit.ensures.value c.in-Some-awaited.other c.in_ok-begun-in-Some-awaited.field-0
    awaited c.in_ok-begun-in-Some-awaited.ensures.symbol c.in_ok-begun-in-Some-awaited.ensures.value c.push-in-Some-awaited-2.new.self.items
    (c.in_ok-push-in-Some-awaited-2.ensures.items ∙ ap (λ way. way ++ c.in_ok-begun-in-Some-awaited.field-0 ∷ []) c.in_ok-push-in-Some-awaited.ensures.items)

pub way-preserved-in_ok-push-in-Some-awaited-2 : goal.way-preserved-in_ok-push-in-Some-awaited-2
way-preserved-in_ok-push-in-Some-awaited-2 c =
    let awaited = rw c.in-Some-awaited.is at c.in_ok-visit.ensures.awaited in
    filling_more (opened c.args.view.symbols.now c.args.view.marks.now) c.args.self.now c.way.self c.way.way.items c.pop.new.self.items c.in-Some.visit c.args.at c.way.invariant c.in-Some.ensures.items
    c.in_ok-visit.visit c.in_ok-visit.ensures.symbol (record { back = c.leads_is_decided.ensures.back; leads = c.leads_is_decided.ensures.leads }) c.none_leads_back.ensures c.in_ok-visit.ensures.value c.in-Some-awaited.other c.in_ok-begun-in-Some-awaited.field-0
    awaited c.in_ok-begun-in-Some-awaited.ensures.symbol c.in_ok-begun-in-Some-awaited.ensures.value c.push-in-Some-awaited-2.new.self.items
    (c.in_ok-push-in-Some-awaited-2.ensures.items ∙ ap (λ way. way ++ c.in_ok-begun-in-Some-awaited.field-0 ∷ []) c.in_ok-push-in-Some-awaited.ensures.items)

pub put-requires : goal.put-requires
put-requires c =
    rw c.in_ok-visit.ensures.symbol
    (last_inside (opened c.args.view.symbols.now c.args.view.marks.now) c.args.self.now c.way.self c.way.way.items c.pop.new.self.items c.in-Some.visit c.args.at c.way.invariant c.in-Some.ensures.items)

pub way-smaller : goal.way-smaller
way-smaller c =
    less_less (opened c.args.view.symbols.now c.args.view.marks.now) c.args.self.now c.way.self c.way.way.items c.pop.new.self.items c.in-Some.visit c.args.at c.way.invariant c.in-Some.ensures.items
    c.in_ok-visit.visit.seen c.in_ok-visit.visit.made c.put.new.self (rw c.in_ok-visit.ensures.symbol at c.in_ok-put-in-None.ensures)

pub way-preserved : goal.way-preserved
way-preserved c =
    filling_less (opened c.args.view.symbols.now c.args.view.marks.now) c.args.self.now c.way.self c.way.way.items c.pop.new.self.items c.in-Some.visit c.args.at c.way.invariant c.in-Some.ensures.items
    c.in_ok-visit.visit.seen c.in_ok-visit.visit.made c.put.new.self (rw c.in_ok-visit.ensures.symbol at c.in_ok-put-in-None.ensures) c.in_ok-visit.ensures.value
    (rw c.in-None.is at c.in_ok-visit.ensures.all refl)
