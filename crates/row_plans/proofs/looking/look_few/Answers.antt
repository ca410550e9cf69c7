-- Each row that may need more was looked at.
use Rattle.std.proofs.Common.{get_or, inl, inr, ap, sym, ◌∙◌, arith}
use Rattle.asm_levels.specs.Needs.{levels_needed}
use Rattle.row_plans.proofs.PartLemmas.{part_begun, part_raised, part_steps}
use Rattle.row_plans.proofs.looking.look_few.Goals as goal

pub look_touched-count-requires-clause-begun : goal.look_touched-count-requires-clause-begun
look_touched-count-requires-clause-begun g c = (
  c.args.levels.now,
  c.args.steps.now,
  part_begun c.args.view.rows.now c.args.view.shifts.now c.args.levels.now c.args.seen.now c.args.risen.now c.args.view.round c.args.steps.now
      c.requires.as_many_levels c.requires.as_many_seen c.requires.fresh,
)

pub look_listed-requires-clause-begun : goal.look_listed-requires-clause-begun
look_listed-requires-clause-begun g c = (
  c.args.levels.now,
  c.args.steps.now,
  c.look_touched-count.ensures.part c.args.levels.now c.args.steps.now (part_begun c.args.view.rows.now c.args.view.shifts.now c.args.levels.now c.args.seen.now c.args.risen.now
      c.args.view.round c.args.steps.now c.requires.as_many_levels c.requires.as_many_seen c.requires.fresh),
)

pub returns-clause-levels : goal.returns-clause-levels
returns-clause-levels g c =
    let part = c.look_listed.ensures.part c.args.levels.now c.args.steps.now (c.look_touched-count.ensures.part c.args.levels.now c.args.steps.now (part_begun c.args.view.rows.now c.args.view.shifts.now c.args.levels.now c.args.seen.now c.args.risen.now c.args.view.round c.args.steps.now
    c.requires.as_many_levels c.requires.as_many_seen c.requires.fresh)) in
    let seen = c.look_listed.new.seen in
    c.raised_by_index.ensures.only c.args.levels.now (levels_needed c.args.view.shifts.now c.args.view.rows.now) c.look_listed.new.levels (omega arith)
    (part_raised c.args.view.rows.now c.args.view.shifts.now c.args.levels.now c.look_listed.new.levels c.look_listed.new.seen c.look_listed.new.risen c.args.view.round c.look_listed.result c.args.steps.now c.look_listed.new.steps part (λ index within. elim (c.requires.calm index within) [
      | inl enough ↦ inl enough
      | inr rest ↦ elim rest [
        | inl touched ↦ inr (c.look_listed.ensures.kept index (c.look_touched-count.ensures.seen index touched))
        | inr wide ↦ inr (ap (λ i. get_or seen i 0) (sym wide.2) ∙ c.look_listed.ensures.seen wide.0 wide.1)
      ]
    ]))

pub returns-clause-part : goal.returns-clause-part
returns-clause-part g c =
    c.look_listed.ensures.part c.args.levels.now c.args.steps.now (c.look_touched-count.ensures.part c.args.levels.now c.args.steps.now (part_begun c.args.view.rows.now c.args.view.shifts.now c.args.levels.now c.args.seen.now c.args.risen.now c.args.view.round c.args.steps.now
    c.requires.as_many_levels c.requires.as_many_seen c.requires.fresh))

pub returns-clause-at_most : goal.returns-clause-at_most
returns-clause-at_most g c =
    let part = c.look_listed.ensures.part c.args.levels.now c.args.steps.now (c.look_touched-count.ensures.part c.args.levels.now c.args.steps.now (part_begun c.args.view.rows.now c.args.view.shifts.now c.args.levels.now c.args.seen.now c.args.risen.now c.args.view.round c.args.steps.now
    c.requires.as_many_levels c.requires.as_many_seen c.requires.fresh)) in
    part_steps c.args.view.rows.now c.args.view.shifts.now c.args.levels.now c.look_listed.new.levels c.look_listed.new.seen c.look_listed.new.risen c.args.view.round c.look_listed.result c.args.steps.now c.look_listed.new.steps part
