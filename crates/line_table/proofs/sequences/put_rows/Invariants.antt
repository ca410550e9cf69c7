-- The rest is put behind what is put so far.
use Rattle.std.proofs.Common.{◌≡◌, List, drop}
use Rattle.table_pieces.specs.Pieces.{Piece, Takes, pieces_put, tables_of}
use Rattle.line_table.specs.Sequences.{gap_pieces}
use Rattle.line_table.proofs.sequences.put_rows.Given as goal

abbrev pub invariant-loop-gap : goal.invariant-loop-gap
invariant-loop-gap l = record {
  takes : Takes l.table.section l.sections;
  put : (pieces : List Piece) → pieces_put l.table.section l.table.pos (gap_pieces l.section l.from (drop l.gap-index l.rows.gaps) l.rest pieces) (tables_of l.symbols l.sections)
      ≡ pieces_put l.table.section l.table.pos (gap_pieces l.section 0 l.rows.gaps l.rows.bytes pieces) (tables_of l.fn.symbols l.fn.sections);
}
