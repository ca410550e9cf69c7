-- The rows of the sections so far are there.
use Rattle.std.proofs.Common.{◌≡◌, ◌++◌, length, drop}
use Rattle.item_rows.specs.ItemRows.{rows_from}
use Rattle.item_rows.specs.RowViews.{told_rows}
use Rattle.item_rows.specs.RowBounds.{AllFit}
use Rattle.item_rows.proofs.rows.all_rows.Given as goal

abbrev pub invariant-loop-section : goal.invariant-loop-section
invariant-loop-section l = record {
  rows : l.made.items ++ rows_from (told_rows l.rows) (length l.made.items) (drop l.section-index l.sections) ≡ rows_from (told_rows l.rows) 0 l.sections;
  fit : AllFit l.rows.count l.made.items;
}
