-- The next row is listed where its size depends on its address.
use Rattle.std.proofs.Common.{sym, ◌∙◌}
use Rattle.asm_levels.proofs.EndLemmas.{dependent_skipped, dependent_pushed}
use Rattle.asm_levels.proofs.ends.dependents_of.Goals as goal
use Rattle.asm_levels.proofs.ends.dependents_of.Goals.{then-depends_on_address+in_ok-push, else-depends_on_address}

pub loop-index-preserved : goal.loop-index-preserved
loop-index-preserved c = elim c.if-depends_on_address.branch [
  | then-depends_on_address+in_ok-push w ↦ rw (w.list-is, w.in_ok-push.ensures.items) (dependent_pushed c.args.rows.now c.loop-index.list.items c.loop-index.index c.index-rows-index.result
      c.loop-index-test.true c.index-rows-index.is (sym c.depends_on_address.ensures ∙ w.if-depends_on_address.true) c.loop-index.invariant)
  | else-depends_on_address w ↦ rw w.list-is (dependent_skipped c.args.rows.now c.loop-index.list.items c.loop-index.index c.index-rows-index.result
      c.loop-index-test.true c.index-rows-index.is (sym c.depends_on_address.ensures ∙ w.if-depends_on_address.false) c.loop-index.invariant)
]
