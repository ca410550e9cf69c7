-- The dependents among the rows so far.
use Rattle.asm_levels.proofs.EndLemmas.{FirstDependents}
use Rattle.asm_levels.proofs.ends.dependents_of.Given as goal

abbrev pub invariant-loop-index : goal.invariant-loop-index
invariant-loop-index l = FirstDependents l.rows l.list.items l.index
