use Rattle.std.proofs.Common.{◌≡◌, ◌+◌, drop}
use Rattle.stack_facts.specs.Sets.{place_of}
use Rattle.stack_facts.proofs.slots.place_of.Given as goal

abbrev pub invariant-loop-at : goal.invariant-loop-at
invariant-loop-at l = place_of l.slots l.distance l.register ≡ l.at + place_of (drop l.at l.slots) l.distance l.register
