-- Weak aliases stay, and they alone.
use Rattle.assigned_forms.proofs.LinkedLemmas.{alias_stays, linked_left}
use Rattle.assigned_forms.proofs.laws.weak_aliases_stay.Goals as goal

pub returns-clause-stays : goal.returns-clause-stays
returns-clause-stays c = alias_stays

pub returns-clause-left : goal.returns-clause-left
returns-clause-left c symbols form forward =
    linked_left symbols (record { back = c.leads_is_decided.ensures.back; leads = c.leads_is_decided.ensures.leads }) forward form
