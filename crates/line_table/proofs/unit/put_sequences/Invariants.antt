-- The rest is put behind what is put so far.
use Rattle.std.proofs.Common.{◌≡◌, List, drop}
use Rattle.asm_frags.specs.Writing.{LooseSection}
use Rattle.table_pieces.specs.Pieces.{Takes, pieces_put, tables_of}
use Rattle.table_pieces.specs.Standing.{OneExtends}
use Rattle.line_table.specs.Sequences.{end_in, sequences_from}
use Rattle.line_table.proofs.unit.put_sequences.Given as goal

abbrev pub invariant-loop-i : goal.invariant-loop-i
invariant-loop-i l = record {
  takes : Takes l.table.section l.sections;
  grown : (first : List LooseSection) → OneExtends l.table.section first l.fn.sections → OneExtends l.table.section first l.sections;
  put : (first : List LooseSection) → OneExtends l.table.section first l.fn.sections → l.own ≡ end_in l.table.section first
      → pieces_put l.table.section l.table.pos (sequences_from first l.i (drop l.i l.sequences)) (tables_of l.symbols l.sections)
      ≡ pieces_put l.table.section l.table.pos (sequences_from first 0 l.sequences) (tables_of l.fn.symbols l.fn.sections);
}
