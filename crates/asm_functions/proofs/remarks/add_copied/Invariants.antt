-- So many of the notes were put.
use Rattle.std.proofs.Common.{◌≡◌, ◌++◌, take}
use Rattle.asm_functions.proofs.remarks.add_copied.Given as goal

abbrev pub invariant-loop-noted : goal.invariant-loop-noted
invariant-loop-noted l = l.all ≡ l.fn.all ++ take l.noted-index l.notes
