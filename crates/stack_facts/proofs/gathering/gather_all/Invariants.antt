use Rattle.std.proofs.Common.{◌≤◌, length}
use Rattle.stack_depths.specs.States.{distances_in}
use Rattle.stack_facts.specs.Facts.{saves_before}
use Rattle.stack_facts.specs.Sets.{HasSaves}
use Rattle.stack_facts.specs.Ranks.{MayStand}
use Rattle.stack_facts.proofs.gathering.gather_all.Given as goal

abbrev pub invariant-loop-item : goal.invariant-loop-item
invariant-loop-item l = record {
  may : MayStand l.slots.items;
  all : HasSaves l.items (distances_in l.depths) l.item l.slots.items;
  few : length l.slots.items ≤ saves_before l.items (distances_in l.depths) l.item;
}
