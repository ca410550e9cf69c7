-- The items so far are counted.
use Rattle.std.proofs.Common.{◌≡◌, take, count_by}
use Rattle.layout_counts.specs.Counted.{is_near_jump}
use Rattle.layout_counts.proofs.counting.near_jumps_in.Given as goal

abbrev pub invariant-loop-item : goal.invariant-loop-item
invariant-loop-item l = l.count ≡ count_by is_near_jump (take l.item-index l.items)
