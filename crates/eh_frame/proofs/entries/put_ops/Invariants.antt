-- The rest is put behind what is put so far.
use Rattle.std.proofs.Common.{◌≡◌, ℕ, drop}
use Rattle.table_pieces.specs.Pieces.{Takes, pieces_put, tables_of}
use Rattle.eh_frame.specs.Entries.{op_pieces}
use Rattle.eh_frame.proofs.entries.put_ops.Given as goal

abbrev pub invariant-loop-placed : goal.invariant-loop-placed
invariant-loop-placed l = record {
  takes : Takes l.table.section l.sections;
  put : (log : ℕ) → pieces_put l.table.section l.table.pos (op_pieces l.section log l.last (drop l.placed-index l.ops)) (tables_of l.symbols l.sections)
      ≡ pieces_put l.table.section l.table.pos (op_pieces l.section log l.fn.start l.ops) (tables_of l.fn.symbols l.fn.sections);
}
