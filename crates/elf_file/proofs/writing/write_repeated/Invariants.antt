-- The bytes are written so often, and no call failed.
use Rattle.std.proofs.Common.{◌≡◌, option_map}
use Rattle.asm_base.specs.Output.{after_write}
use Rattle.item_contents.specs.Contents.{repeated}
use Rattle.elf_file.proofs.writing.write_repeated.Given as goal

abbrev pub invariant-loop-i : goal.invariant-loop-i
invariant-loop-i g l = record {
  made : g.O.Output.made l.obj ≡ option_map (after_write (repeated l.i l.bytes)) (g.O.Output.made l.fn.obj);
  faults : g.O.Output.faults l.obj ≡ g.O.Output.faults l.fn.obj;
}
