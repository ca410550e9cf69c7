use Rattle.std.proofs.Common.{◌<◌, ◌≤◌, ℕ, length}
use Rattle.stack_facts.specs.Sets.{place_of, slot_at}
use Rattle.stack_facts.specs.Ranks.{rank_of, IsRanked}
use Rattle.stack_facts.proofs.ranking.ranked.Given as goal

abbrev pub invariant-loop-slot : goal.invariant-loop-slot
invariant-loop-slot l = record {
  ranked : IsRanked l.slots.items;
  behind : (k m : ℕ) → k < length l.slots.items → l.slot-index ≤ m → m < length l.slot-items → rank_of (slot_at l.slots.items k) ≤ rank_of (slot_at l.slot-items m);
  all : (m : ℕ) → m < l.slot-index → place_of l.slots.items (slot_at l.slot-items m).distance (slot_at l.slot-items m).register < length l.slots.items;
  few : length l.slots.items ≤ l.slot-index;
}
