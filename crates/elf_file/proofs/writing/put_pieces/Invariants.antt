-- What waits, and what is to come, is left of all bytes; no call failed.
use Rattle.std.proofs.Common.{◌≡◌, ◌++◌, drop}
use Rattle.elf_file.specs.Pieces.{flat}
use Rattle.elf_file.specs.Waiting.{Sends}
use Rattle.elf_file.proofs.writing.put_pieces.Given as goal

abbrev pub invariant-loop-piece : goal.invariant-loop-piece
invariant-loop-piece g l = record {
  sends : Sends (g.O.Output.made l.fn.obj) (g.O.Output.made l.obj) (l.fn.buffer ++ flat l.pieces) (l.buffer ++ flat (drop l.piece-index l.pieces));
  faults : g.O.Output.faults l.obj ≡ g.O.Output.faults l.fn.obj;
}
