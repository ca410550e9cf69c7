use Rattle.std.proofs.Common.{option_map}
use Rattle.x86_lookup.proofs.RowLookups.{finds}
use Rattle.x86_lookup.proofs.writing.row_of.Goals as goal

pub returns : goal.returns
returns c = finds c.args.insn.now c.rows_of_size-range.result (option_map (λ row. row.now) c.first_admitted.result) c.rows_of_size-range.ensures.just
    (rw (c.rows.ensures, c.from.ensures, c.from-2.ensures) at c.first_admitted.ensures)
