use Rattle.std.proofs.Common.{◌∙◌}
use Rattle.att_operands.proofs.RegisterLookups.{register_found}
use Rattle.att_operands.proofs.registers.in_lower_case.Goals as goal

pub returns : goal.returns
returns c = c.held_by.ensures ∙ rw c.key_of.ensures (register_found c.args.text.now (λ i. (c.type_inv.text i).fits))
