use Rattle.stack_facts.specs.Passing.{IsDropped, is_lower}
use Rattle.stack_facts.proofs.word_passing.from_on.Given as goal

abbrev pub invariant-loop-at : goal.invariant-loop-at
invariant-loop-at l = IsDropped l.fn.word l.out (is_lower l.limit l.slots) l.at
