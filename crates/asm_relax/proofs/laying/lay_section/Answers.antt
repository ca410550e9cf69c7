-- The next item stands where its row does.
use Rattle.std.proofs.Common.{◌≡◌, ℕ, suc, ◌+◌, drop, refl, ap, ◌∙◌, arith}
use Rattle.std.specs.Prelude.{slice_index}
use Rattle.asm_relax.proofs.LayingLemmas.{lay_start, has_item, lay_step, lay_done, shift_behind}
use Rattle.asm_relax.proofs.laying.lay_section.Goals as goal

pub loop-item-init : goal.loop-item-init
loop-item-init c = record {
  sections = lay_start c.args.sections.now c.args.number (drop c.args.first c.args.rows.now.shifts) c.section.result.now c.section.ensures.section;
  same = refl;
  shift = c.shift-shift.ensures.shift ∙ ap (λ (n : ℕ). slice_index c.args.rows.now.shifts n) (let none : c.args.first ≡ c.args.first + 0 = omega arith in none);
  small = c.shift-shift.ensures.within;
}

pub lay_item-requires-clause-item : goal.lay_item-requires-clause-item
lay_item-requires-clause-item c =
    has_item c.args.sections.now c.args.number (drop c.args.first c.args.rows.now.shifts) c.section.result.now c.section.ensures.section c.loop-item.sections c.loop-item.item
    (rw c.items-count.ensures.items at c.loop-item-test.true) c.loop-item.invariant.sections

pub loop-item-preserved : goal.loop-item-preserved
loop-item-preserved c =
    let shifts = c.args.rows.now.shifts in
    let inside = rw c.items-count.ensures.items at c.loop-item-test.true in
    let one : c.args.first + c.loop-item.item + 1 ≡ c.args.first + suc c.loop-item.item = omega arith in
    record {
      sections =
          lay_step c.args.sections.now c.args.number (drop c.args.first shifts) c.section.result.now c.section.ensures.section c.loop-item.sections c.lay_item.new.sections c.loop-item.item
          c.loop-item.shift c.shift-next.result inside c.loop-item.invariant.sections (c.loop-item.invariant.shift ∙ shift_behind shifts c.args.first c.loop-item.item)
          (c.shift-next.ensures.shift ∙ ap (λ (n : ℕ). slice_index shifts n) one ∙ shift_behind shifts c.args.first (suc c.loop-item.item)) c.lay_item.ensures.sections;
      same = c.lay_item.ensures.kept ∙ c.loop-item.invariant.same;
      shift = c.shift-next.ensures.shift ∙ ap (λ (n : ℕ). slice_index shifts n) (let more : c.args.first + c.loop-item.item + 1 ≡ c.args.first + (c.loop-item.item + 1) = omega arith in more);
      small = c.shift-next.ensures.within;
    }

pub returns-clause-sections : goal.returns-clause-sections
returns-clause-sections c =
    lay_done c.args.sections.now c.args.number (drop c.args.first c.args.rows.now.shifts) c.section.result.now c.section.ensures.section c.loop-item.sections c.loop-item.item
    (rw c.items-count.ensures.items at c.loop-item-test.false) c.loop-item.invariant.sections
