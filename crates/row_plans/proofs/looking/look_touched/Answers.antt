-- The nodes above the next row.
use Rattle.std.proofs.Common.{ℕ, length, get_or, inl, inr, ap, sym, ◌∙◌, subst, arith}
use Rattle.std.proofs.lemmas.Bool.{cases_eq}
use Rattle.asm_levels.specs.Watching.{leaf_of, HasEntryAbove}
use Rattle.row_plans.proofs.looking.look_touched.Goals as goal

pub look_above-count-requires-clause-begun : goal.look_above-count-requires-clause-begun
look_above-count-requires-clause-begun g c = let begun = c.requires.begun in (begun.0, begun.1, c.loop-row.invariant.part begun.0 begun.1 begun.2)

pub loop-row-preserved : goal.loop-row-preserved
loop-row-preserved g c =
    let all = c.loop-row.invariant in
    let one = c.look_above-count.ensures in
    let entries = c.args.entries.now in
    record {
      part = λ old start part. one.part old start (all.part old start part);
      done = λ row touched. elim (cases_eq touched.0 c.loop-row.row-index) [
        | inl same ↦ one.seen row (subst (λ (leaf : ℕ). HasEntryAbove entries.rows.items entries.nodes.items entries.follows.items row leaf)
            (ap (λ i. leaf_of (length c.args.view.rows.now) (get_or c.args.touched.now i 0)) same ∙ sym c.leaf_of-leaf.ensures.leaf) touched.2)
        | inr other ↦ one.kept row (all.done row (touched.0, (let less = touched.1 in omega arith), touched.2))
      ];
      passed = one.passed;
      stamps = one.stamps all.stamps;
      many_passed = one.as_many_passed ∙ all.many_passed;
      many_levels = one.as_many_levels ∙ all.many_levels;
      many_seen = one.as_many_seen ∙ all.many_seen;
      room = one.room ∙ all.room;
    }
