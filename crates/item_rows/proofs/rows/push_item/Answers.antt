-- What grows with the distance between two rows fits, whatever its number is.
use Rattle.std.proofs.Common.{length}
use Rattle.item_rows.proofs.rows.push_item.Goals as goal

pub push_row-requires-clause-row : goal.push_row-requires-clause-row
push_row-requires-clause-row c = record { size = c.in-Some.ensures.fits (length c.args.made.now.items); offset = c.requires.offset }
