-- The program and the relation agree.
use Rattle.asm_symbols.proofs.LeadsBackLemmas.{back_leads, leads_is_back}
use Rattle.asm_symbols.proofs.laws.leads_is_decided.Goals as goal

pub returns-clause-back : goal.returns-clause-back
returns-clause-back c = back_leads

pub returns-clause-leads : goal.returns-clause-leads
returns-clause-leads c = leads_is_back
