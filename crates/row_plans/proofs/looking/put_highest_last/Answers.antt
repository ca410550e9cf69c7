-- The row is put behind those that are left.
use Rattle.std.proofs.Common.{◌≡◌, ◌-◌, ◌∙◌, ℕ, ap, sym, length, get_or, arith}
use Rattle.std.proofs.lemmas.List.{get_or-map}
use Rattle.asm_levels.specs.declared.rows.Row.{Row}
use Rattle.asm_levels.specs.Needs.{top, tops}
use Rattle.asm_levels.specs.Watching.{HaveSameRows}
use Rattle.row_plans.proofs.WideLemmas.{same_swap, highest_swap, inside_same}
use Rattle.row_plans.proofs.looking.put_highest_last.Goals as goal

pub loop-at-preserved : goal.loop-at-preserved
loop-at-preserved c =
    let all = c.loop-at.invariant in
    let rows = c.args.rows.now in
    let list = c.loop-at.list in
    let now = c.swap.new.self in
    let place = c.loop-at.at in
    let last = c.loop-at.left - 1 in
    let row = get_or list place 0 in
    let some = c.loop-at-test.true in
    let order = all.order in
    let bound = all.bound in
    let long : length now ≡ length list = c.swap.ensures.len in
    let swapped = c.swap.ensures.by_index in
    let one : get_or now place 0 ≡ get_or list last 0 = swapped.0 0 in
    let other : get_or now last 0 ≡ row = swapped.1 0 in
    let rest : (k : ℕ) → (k ≡ place → ⊥) → (k ≡ last → ⊥) → get_or now k 0 ≡ get_or list k 0 = (λ k apart different. swapped.2 k 0 apart different) in
    let inside = all.inside place (omega arith) in
    let tops_is : get_or (tops rows) row 0 ≡ top c.index-rows-row.result.size = get_or-map (λ (r : Row). top r.size) rows row c.index-rows-row.result 0 inside
    ∙ ap (λ (r : Row). top r.size) (sym c.index-rows-row.is) in
    let is = c.top.ensures in
    let high = c.if-levels-row.false in
    let same : HaveSameRows c.args.list.now now = same_swap list now place last (omega arith) (omega arith) long one other rest c.args.list.now all.same_rows in
    record {
      order = omega arith;
      bound = omega arith;
      inside = inside_same c.args.list.now now (length rows) same c.requires.inside;
      highest = highest_swap list now place last (omega arith) (omega arith) long one other rest rows c.args.levels.now c.loop-at.left (omega arith) (omega arith) (omega arith) all.highest;
      same_rows = same;
    }
