-- A section has few plain bytes.
use Rattle.std.proofs.Common.{◌≡◌, length, ap, arith}
use Rattle.item_rows.proofs.RowFitting.{end_fits}
use Rattle.item_rows.proofs.rows.push_section.Goals as goal

pub push_row-requires-clause-row : goal.push_row-requires-clause-row
push_row-requires-clause-row c =
    let same : length c.bytes-bytes.result.now ≡ length c.args.section.now.bytes = ap length c.bytes-bytes.ensures.bytes in
    let small = c.bytes-bytes.ensures.within.small in
    end_fits c.args.rows.count (length c.push_items.new.made.items) (length c.bytes-bytes.result.now) (omega arith)
