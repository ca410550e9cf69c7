-- So many notes are added.
use Rattle.std.proofs.Common.{◌≡◌, ◌++◌}
use Rattle.asm_values.specs.DataItems.{cut_notes}
use Rattle.asm_values.proofs.assemblers.add_notes.Given as goal

abbrev pub invariant-loop-i : goal.invariant-loop-i
invariant-loop-i l = l.notes ≡ l.fn.notes ++ cut_notes l.pos l.i
