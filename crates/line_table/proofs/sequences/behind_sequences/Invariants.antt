-- The end behind the rest is the end behind all.
use Rattle.std.proofs.Common.{◌≡◌, true, List, drop}
use Rattle.asm_frags.specs.Writing.{LooseSection}
use Rattle.table_pieces.specs.Ends.{behind_pieces}
use Rattle.line_table.specs.Sequences.{sequences_from}
use Rattle.line_table.proofs.sequences.behind_sequences.Given as goal

abbrev pub invariant-loop-found : goal.invariant-loop-found
invariant-loop-found l = record {
  run : l.behind.in_run ≡ true;
  counted : (sections : List LooseSection) → behind_pieces (sequences_from sections l.found-index (drop l.found-index l.sequences)) l.behind
      ≡ behind_pieces (sequences_from sections 0 l.sequences) l.fn.end;
}
