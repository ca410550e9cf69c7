use Rattle.x86_table.proofs.HeadOrder.{leads}
use Rattle.x86_table.proofs.laws.leads_in_order.Goals as goal

pub returns : goal.returns
returns c = leads
