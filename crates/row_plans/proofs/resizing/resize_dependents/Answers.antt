-- The next dependent gets its size.
use Rattle.std.proofs.Common.{ℕ, get_or, length, set, refl, ◌∙◌, arith}
use Rattle.row_plans.proofs.TouchedLemmas.{touched_noted, within_noted, end_noted}
use Rattle.row_plans.proofs.SizedLemmas.{small_here, first_more, plain_more, exact_end}
use Rattle.row_plans.proofs.resizing.resize_dependents.Goals as goal

pub loop-row-init : goal.loop-row-init
loop-row-init c = record {
  resized = λ before resized. (resized, λ at less within. absurd (omega arith));
  within = c.requires.within;
  end = omega arith;
  many_shifts = c.requires.as_many_shifts;
  as_many = refl;
}

pub loop-row-preserved : goal.loop-row-preserved
loop-row-preserved c =
    let rows = c.args.all.rows.now in
    let all = c.loop-row.invariant in
    let row : ℕ = get_or c.args.dependents.now c.loop-row.row-index 0 in
    let inside = c.requires.dependents.within c.loop-row.row-index c.loop-row-test.true in
    let noted = c.note_changed-place.ensures in
    let size = c.size_here-size.result in
    let last = end_noted rows c.loop-row.shifts c.note_changed-place.new.list c.loop-row.place row size c.note_changed-place.result noted.noted in
    record {
      resized = λ before resized. (
          let old = all.resized before resized in
          let many = old.0.moved.as_many_sizes in (
            record {
              sizes = set old.0.sizes row size;
              moved = c.resize.ensures.moved old.0.sizes old.0.moved;
              plain = plain_more c.args.all.rows.now c.args.levels.now old.0.sizes c.loop-row.shifts c.args.dependents.now c.requires.stand c.requires.levels c.requires.as_many_levels c.requires.bytes
                  c.requires.dependents old.0.moved old.0.plain c.loop-row.row-index old.1 c.loop-row-test.true size;
              touched = touched_noted rows before old.0.sizes c.loop-row.shifts c.loop-row.touched c.note_changed-place.new.list c.loop-row.place row size c.note_changed-place.result
                  (omega arith) (omega arith) noted.kept noted.noted old.0.moved old.0.touched;
            },
            first_more c.args.all.rows.now c.args.levels.now old.0.sizes c.loop-row.shifts c.args.dependents.now c.requires.stand c.requires.levels c.requires.as_many_levels c.requires.bytes
                c.requires.dependents old.0.moved old.0.plain c.loop-row.row-index old.1 c.loop-row-test.true size c.size_here-size.ensures,
          )
          );
      within = within_noted rows c.loop-row.shifts c.loop-row.touched c.note_changed-place.new.list c.loop-row.place row size c.note_changed-place.result (length rows) inside noted.kept noted.noted all.within;
      end = (let before = all.end in omega arith);
      many_shifts = c.resize.ensures.as_many_shifts;
      as_many = noted.as_many ∙ all.as_many;
    }

pub size_here-size-requires-clause-small : goal.size_here-size-requires-clause-small
size_here-size-requires-clause-small c =
    let begun = c.requires.resized in
    let old = c.loop-row.invariant.resized begun.0 begun.1 in
    small_here c.args.all.rows.now c.args.levels.now old.0.sizes c.loop-row.shifts c.args.dependents.now c.requires.stand c.requires.levels c.requires.as_many_levels c.requires.bytes
    c.requires.dependents old.0.moved old.0.plain c.loop-row.row-index old.1 c.loop-row-test.true

pub returns-clause-shifts : goal.returns-clause-shifts
returns-clause-shifts c =
    let begun = c.requires.resized in
    let old = c.loop-row.invariant.resized begun.0 begun.1 in
    exact_end c.args.all.rows.now c.args.levels.now old.0.sizes c.loop-row.shifts c.args.dependents.now c.requires.stand c.requires.levels c.requires.as_many_levels c.requires.bytes
    c.requires.dependents old.0.moved old.0.plain c.loop-row.row-index old.1 (omega arith)

pub returns-clause-resized : goal.returns-clause-resized
returns-clause-resized c = λ before resized. (c.loop-row.invariant.resized before resized).0
