-- Texts that are shorter or longer than all names of registers.
use Rattle.intel_operands.proofs.UsualOperands.{short_none, long_none}
use Rattle.intel_operands.proofs.usual.is_odd_size.Goals as goal

pub returns-then-text-lt2 : goal.returns-then-text-lt2
returns-then-text-lt2 c = short_none c.registers_have_slots.ensures c.args.text.now (λ i. (c.type_inv.text i).fits)

pub returns-else-text-lt2 : goal.returns-else-text-lt2
returns-else-text-lt2 c = long_none c.registers_have_slots.ensures c.args.text.now (λ i. (c.type_inv.text i).fits)
