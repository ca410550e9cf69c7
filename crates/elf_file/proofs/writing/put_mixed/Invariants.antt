-- What waits, and what is to come, is left of all bytes; no call failed.
use Rattle.std.proofs.Common.{◌≡◌, ◌≤◌, ◌++◌, length, drop}
use Rattle.elf_file.specs.Pieces.{mixed}
use Rattle.elf_file.specs.Waiting.{Sends}
use Rattle.elf_file.proofs.writing.put_mixed.Given as goal

abbrev pub invariant-loop-one : goal.invariant-loop-one
invariant-loop-one g l = record {
  within : l.at ≤ length l.bytes;
  sends : Sends (g.O.Output.made l.fn.obj) (g.O.Output.made l.obj) (l.fn.buffer ++ mixed l.bytes l.between)
      (l.buffer ++ mixed (drop l.at l.bytes) (drop l.one-index l.between));
  faults : g.O.Output.faults l.obj ≡ g.O.Output.faults l.fn.obj;
}
