use Rattle.stack_facts.specs.Sets.{IsBest}
use Rattle.stack_facts.proofs.passing.highest.Given as goal

abbrev pub invariant-loop-at : goal.invariant-loop-at
invariant-loop-at g l = IsBest l.slots (g.B.Numbers.list l.bits) l.register l.at l.found
