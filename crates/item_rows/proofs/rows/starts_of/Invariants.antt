-- The first rows of the sections so far are there.
use Rattle.std.proofs.Common.{◌≡◌, ◌+◌, ◌++◌, drop}
use Rattle.item_rows.specs.ItemRows.{starts_from, all_rows}
use Rattle.item_rows.proofs.rows.starts_of.Given as goal

abbrev pub invariant-loop-section : goal.invariant-loop-section
invariant-loop-section l = record {
  starts : l.first.items ++ starts_from l.count (drop l.section-index l.sections) ≡ starts_from 0 l.sections;
  count : l.count + all_rows (drop l.section-index l.sections) ≡ all_rows l.sections;
}
