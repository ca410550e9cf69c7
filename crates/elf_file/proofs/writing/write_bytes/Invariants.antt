-- The bytes before the place are written, and no call failed.
use Rattle.std.proofs.Common.{◌≡◌, ◌-◌, ◌≤◌, length, take, option_map}
use Rattle.asm_base.specs.Output.{after_write}
use Rattle.elf_file.proofs.writing.write_bytes.Given as goal

abbrev pub invariant-pieces : goal.invariant-pieces
invariant-pieces g l = record {
  within : l.at ≤ length l.bytes;
  made : g.O.Output.made l.obj ≡ option_map (after_write (take l.at l.bytes)) (g.O.Output.made l.fn.obj);
  faults : g.O.Output.faults l.obj ≡ g.O.Output.faults l.fn.obj;
}

abbrev pub decreases-pieces : goal.decreases-pieces
decreases-pieces g l = length l.bytes - l.at
