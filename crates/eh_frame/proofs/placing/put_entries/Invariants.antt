-- The rest is put behind what is put so far.
use Rattle.std.proofs.Common.{◌≡◌, drop}
use Rattle.table_pieces.specs.Pieces.{Takes, tables_of}
use Rattle.eh_frame.specs.Placing.{entries_put}
use Rattle.eh_frame.specs.Progress.{putting_in}
use Rattle.eh_frame.proofs.placing.put_entries.Given as goal

abbrev pub invariant-loop-i : goal.invariant-loop-i
invariant-loop-i l = record {
  takes : Takes l.section l.sections;
  put : (entries_put l.section (drop l.i l.frames) (putting_in l.progress (tables_of l.symbols l.sections))).tables
      ≡ (entries_put l.section l.frames (putting_in l.fn.progress (tables_of l.fn.symbols l.fn.sections))).tables;
}
