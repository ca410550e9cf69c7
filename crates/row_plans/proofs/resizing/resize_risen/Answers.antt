-- The next row of the list gets its size.
use Rattle.std.proofs.Common.{◌≡◌, ℕ, get_or, length, set, refl, sym, ◌∙◌, subst, arith}
use Rattle.std.proofs.lemmas.List.{length-set}
use Rattle.row_plans.specs.Resizing.{AreTouched}
use Rattle.row_plans.proofs.SizedLemmas.{later_all, later_more, later_none}
use Rattle.row_plans.proofs.TouchedLemmas.{touched_none, touched_more, within_more}
use Rattle.row_plans.proofs.resizing.resize_risen.Goals as goal

pub loop-place-init : goal.loop-place-init
loop-place-init c = record {
  resized = λ before sized. (
    before,
    sized.moved,
    later_all c.args.all.rows.now c.args.levels.now before c.args.risen.now sized.plain,
    touched_none before c.args.touched.now,
  );
  within = λ at less. absurd (omega arith);
  many_shifts = c.requires.as_many_shifts;
  as_many = refl;
}

pub loop-place-preserved : goal.loop-place-preserved
loop-place-preserved c =
    let all = c.loop-place.invariant in
    let row : ℕ = get_or c.args.risen.now c.loop-place.place 0 in
    let room = c.requires.room in
    let many = all.as_many in
    let inside = c.requires.inside c.loop-place.place 0 c.loop-place-test.true in
    let size = c.size_of_level.result in
    record {
      resized = λ before sized. (
          let old = all.resized before sized in (
            set old.0 row size,
            c.resize.ensures.moved old.0 old.1,
            later_more c.args.all.rows.now c.args.levels.now old.0 c.args.risen.now c.loop-place.place size old.1.as_many_sizes inside c.size_of_level.ensures old.2,
            touched_more before old.0 c.loop-place.touched c.loop-place.place row size (omega arith) old.3,
          )
          );
      within = within_more c.loop-place.touched c.loop-place.place row (length c.args.all.rows.now) (omega arith) inside all.within;
      many_shifts = c.resize.ensures.as_many_shifts;
      as_many = length-set c.loop-place.touched c.loop-place.place row ∙ many;
    }

pub returns-clause-resized : goal.returns-clause-resized
returns-clause-resized c = λ before sized. (
    let all = c.loop-place.invariant.resized before sized in
    let past : length c.args.risen.now ≡ c.loop-place.place = omega arith in
    record {
      sizes = all.0;
      moved = all.1;
      plain = later_none c.args.all.rows.now c.args.levels.now all.0 c.args.risen.now c.loop-place.place (omega arith) all.2;
      touched = subst (λ (count : ℕ). AreTouched before all.0 count c.loop-place.touched) (sym past) all.3;
    })
