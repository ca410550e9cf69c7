use Rattle.std.proofs.Common.{◌≡◌, ◌<◌, ℕ, None, get_or, length}
use Rattle.stack_facts.specs.Facts.{IsSlotOf}
use Rattle.stack_facts.specs.Sets.{holds_in}
use Rattle.stack_facts.proofs.set_finding.each_greatest.Given as goal

abbrev pub invariant-loop-register : goal.invariant-loop-register
invariant-loop-register l = record {
  long : length l.found ≡ 7;
  done : (r : ℕ) → r < l.register → IsSlotOf (holds_in l.slots l.bits) r (get_or l.found r None);
}
