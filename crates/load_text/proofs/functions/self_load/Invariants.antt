-- The text so far has the lines of the functions before this one.
use Rattle.std.specs.Prelude.{◌≡◌, ◌++◌, codes}
use Rattle.load_text.specs.Load.{first_functions}
use Rattle.load_text.proofs.functions.self_load.Given as goal

abbrev pub invariant-loop-index : goal.invariant-loop-index
invariant-loop-index l = record { so_far : l.text.items ≡ codes ".text\n" ++ first_functions l.functions l.index }
