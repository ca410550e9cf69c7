-- The sections so far are counted.
use Rattle.std.proofs.Common.{◌≡◌, take}
use Rattle.layout_counts.specs.Counted as spec
use Rattle.layout_counts.proofs.counting.near_jumps.Given as goal

abbrev pub invariant-loop-section : goal.invariant-loop-section
invariant-loop-section l = l.count ≡ spec.near_jumps (take l.section-index l.sections)
