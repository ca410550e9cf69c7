use Rattle.std.proofs.Common.{◌∙◌, sym, ap}
use Rattle.att_operands.specs.Slots.{held_by}
use Rattle.att_operands.proofs.RegisterLookups.{own_found}
use Rattle.att_operands.proofs.registers.register_named.Goals as goal

pub returns-in-Some : goal.returns-in-Some
returns-in-Some c =
    own_found c.args.text.now c.in-Some.named (λ i. (c.type_inv.text i).fits) (ap held_by (sym c.number_of.ensures) ∙ (sym c.held_by.ensures ∙ c.in-Some.is))
