-- An expansion has its equation, and leaves no assigned symbol.
use Rattle.assigned_forms.proofs.ExpandingLemmas.{expanded_none, expanded_some, expanded_clean}
use Rattle.assigned_forms.proofs.laws.expansions_are_exact.Goals as goal

pub returns-clause-left : goal.returns-clause-left
returns-clause-left c map form forward = expanded_clean map (record { back = c.leads_is_decided.ensures.back; leads = c.leads_is_decided.ensures.leads }) forward form

pub returns-clause-sum : goal.returns-clause-sum
returns-clause-sum c map form forward some = expanded_some map (record { back = c.leads_is_decided.ensures.back; leads = c.leads_is_decided.ensures.leads }) forward form some

pub returns-clause-none : goal.returns-clause-none
returns-clause-none c map form none = expanded_none map form none
