use Rattle.std.proofs.Common.{◌≡◌, length}
use Rattle.stack_facts.specs.Ranks.{lies_between, is_up_to}
use Rattle.stack_facts.specs.Passing.{IsDropped}
use Rattle.stack_facts.proofs.set_passing.clear_all_between.Given as goal

abbrev pub invariant-loop-register : goal.invariant-loop-register
invariant-loop-register l = record {
  long : length l.out ≡ length l.fn.out;
  dropped : IsDropped l.fn.out l.out (is_up_to (lies_between l.from l.to l.slots) l.slots l.register) (length l.slots);
}
