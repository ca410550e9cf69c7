-- The next row of the list.
use Rattle.std.proofs.Common.{get_or, inl, inr, ap, ◌∙◌, arith}
use Rattle.std.proofs.lemmas.Bool.{cases_eq}
use Rattle.row_plans.proofs.PartLemmas.{few_risen}
use Rattle.row_plans.proofs.looking.look_listed.Goals as goal

pub look_row-count-requires-clause-count : goal.look_row-count-requires-clause-count
look_row-count-requires-clause-count g c =
    let begun = c.requires.begun in
    few_risen c.args.view.rows.now c.args.view.shifts.now begun.0 c.loop-row.levels c.loop-row.seen c.loop-row.risen c.args.view.round c.loop-row.count begun.1 c.loop-row.steps
    (c.loop-row.invariant.part begun.0 begun.1 begun.2)

pub loop-row-preserved : goal.loop-row-preserved
loop-row-preserved g c =
    let all = c.loop-row.invariant in
    let one = c.look_row-count.ensures in
    record {
      part = λ old start part. one.part old start (all.part old start part);
      done = λ at less. elim (cases_eq at c.loop-row.row-index) [
        | inl same ↦ ap (λ i. get_or c.look_row-count.new.seen (get_or c.args.list.now i 0) 0) same ∙ one.seen
        | inr other ↦ one.kept (get_or c.args.list.now at 0) (all.done at (omega arith))
      ];
      kept = λ other is. one.kept other (all.kept other is);
      many_levels = one.as_many_levels ∙ all.many_levels;
      many_seen = one.as_many_seen ∙ all.many_seen;
      room = one.room ∙ all.room;
    }
