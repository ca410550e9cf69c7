use Rattle.std.proofs.Common.{◌≡◌, length}
use Rattle.stack_facts.specs.Sets.{AreBest}
use Rattle.stack_facts.proofs.finding.each_highest.Given as goal

abbrev pub invariant-loop-at : goal.invariant-loop-at
invariant-loop-at g l = record {
  long : length l.found ≡ 7;
  best : AreBest l.slots (g.B.Numbers.list l.bits) l.at l.found;
}
