-- The next row that has the entries of the row before it.
use Rattle.std.proofs.Common.{◌≡◌, false, get_or, inl, inr, ap, sym, ◌∙◌, arith}
use Rattle.std.proofs.lemmas.Bool.{cases_eq, cases_lt}
use Rattle.std.proofs.lemmas.List.{get_or_default, get_or_past}
use Rattle.row_plans.proofs.PartLemmas.{apart_tests, few_risen}
use Rattle.row_plans.proofs.looking.look_run.Goals as goal

pub look_row-count-requires-clause-count : goal.look_row-count-requires-clause-count
look_row-count-requires-clause-count g c =
    let begun = c.requires.begun in
    few_risen c.args.view.rows.now c.args.view.shifts.now begun.0 c.args.levels.now c.args.seen.now c.args.risen.now c.args.view.round c.args.count begun.1 c.args.steps.now begun.2

pub look_row-count-requires-in-loop-row-clause-count : goal.look_row-count-requires-in-loop-row-clause-count
look_row-count-requires-in-loop-row-clause-count g c =
    let begun = c.requires.begun in
    few_risen c.args.view.rows.now c.args.view.shifts.now begun.0 c.loop-row.levels c.loop-row.seen c.loop-row.risen c.args.view.round c.loop-row.count begun.1 c.loop-row.steps
    (c.loop-row.invariant.part begun.0 begun.1 begun.2)

pub look_row-count-requires-in-loop-row-clause-several : goal.look_row-count-requires-in-loop-row-clause-several
look_row-count-requires-in-loop-row-clause-several g c = λ default. (
    let follows = c.args.entries.now.follows.items in
    let many = c.requires.many_follows in
    let less = c.loop-row-test.true in
    let flag : c.index.result.now ≡ get_or follows c.loop-row.row false = c.index.ensures ∙ get_or_default follows c.loop-row.row _ false (omega arith) in
    c.requires.followers c.loop-row.row default (sym flag ∙ c.if-not-index.false))

pub loop-row-preserved : goal.loop-row-preserved
loop-row-preserved g c =
    let all = c.loop-row.invariant in
    let one = c.look_row-count-in-loop-row.ensures in
    record {
      part = λ old start part. one.part old start (all.part old start part);
      behind = (let low = all.behind in omega arith);
      done = λ row low less. elim (cases_eq row c.loop-row.row) [
        | inl same ↦ ap (λ i. get_or c.look_row-count-in-loop-row.new.seen i 0) same ∙ one.seen
        | inr other ↦ one.kept row (all.done row low (omega arith))
      ];
      kept = λ at is. one.kept at (all.kept at is);
      many_levels = one.as_many_levels ∙ all.many_levels;
      many_seen = one.as_many_seen ∙ all.many_seen;
      room = one.room ∙ all.room;
    }

pub returns-clause-seen : goal.returns-clause-seen
returns-clause-seen g c = λ row followed. (
    let follows = c.args.entries.now.follows.items in
    let many = c.requires.many_follows in
    let past = c.loop-row-test.false in
    elim (cases_lt row c.loop-row.row) [
      | inl less ↦ c.loop-row.invariant.done row followed.0 less
      | inr behind ↦ absurd (
          let inside = c.requires.inside in
          let flag = followed.1 row (omega arith) (omega arith) in
          let none : get_or follows row false ≡ false = get_or_past follows row false (omega arith) in
          apart_tests (get_or follows row false) flag none)
    ])

pub returns-then-not-index-clause-seen : goal.returns-then-not-index-clause-seen
returns-then-not-index-clause-seen g c = λ row followed. (
    let follows = c.args.entries.now.follows.items in
    let many = c.requires.many_follows in
    let test = c.loop-row-test.true in
    elim (cases_lt row c.loop-row.row) [
      | inl less ↦ c.loop-row.invariant.done row followed.0 less
      | inr behind ↦ absurd (
          let flag : c.index.result.now ≡ get_or follows c.loop-row.row false = c.index.ensures ∙ get_or_default follows c.loop-row.row _ false (omega arith) in
          apart_tests (get_or follows c.loop-row.row false) (followed.1 c.loop-row.row c.loop-row.invariant.behind behind) (sym flag ∙ c.if-not-index.true))
    ])
