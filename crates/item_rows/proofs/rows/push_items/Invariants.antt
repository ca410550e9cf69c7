-- The rows of the items so far stand last.
use Rattle.std.proofs.Common.{◌≡◌, ◌++◌, length, drop}
use Rattle.item_rows.specs.ItemRows.{item_rows}
use Rattle.item_rows.specs.RowViews.{told_rows}
use Rattle.item_rows.specs.RowBounds.{AllFit}
use Rattle.item_rows.proofs.rows.push_items.Given as goal

abbrev pub invariant-loop-index : goal.invariant-loop-index
invariant-loop-index l = record {
  rows : l.made.items ++ item_rows (told_rows l.rows) l.fields (length l.made.items) l.index (drop l.index l.items)
      ≡ l.fn.made.items ++ item_rows (told_rows l.rows) l.fields (length l.fn.made.items) 0 l.items;
  fit : AllFit l.rows.count l.made.items;
}
