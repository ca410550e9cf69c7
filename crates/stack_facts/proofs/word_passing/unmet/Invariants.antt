use Rattle.stack_facts.specs.Passing.{IsDropped, is_met}
use Rattle.stack_facts.proofs.word_passing.unmet.Given as goal

abbrev pub invariant-loop-at : goal.invariant-loop-at
invariant-loop-at l = IsDropped l.fn.word l.out (is_met l.span l.slots) l.at
