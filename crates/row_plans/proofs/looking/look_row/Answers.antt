-- The row keeps its level, or takes another.
use Rattle.std.proofs.Common.{◌≡◌, max, get_or, ap, sym, ◌∙◌, arith}
use Rattle.std.proofs.lemmas.List.{get_or_default}
use Rattle.asm_levels.specs.Needs.{levels_needed, is_below_top}
use Rattle.row_plans.proofs.RoundLemmas.{needs_at}
use Rattle.row_plans.proofs.PartLemmas.{part_stays, part_rises, one_tick, tick_up}
use Rattle.row_plans.proofs.looking.look_row.Goals as goal

pub returns-then-level-levels-clause-part : goal.returns-then-level-levels-clause-part
returns-then-level-levels-clause-part g c = λ old start part. (
    let rows = c.args.view.rows.now in
    let shifts = c.args.view.shifts.now in
    let index = c.args.index in
    let row = get_or rows index c.index-view-index.result in
    let need = needs_at shifts rows index row c.requires.inside (get_or_default rows index c.index-view-index.result row c.requires.inside) in
    let level : c.level_taken-level.result ≡ max (get_or c.args.levels.now index 0) (get_or (levels_needed shifts rows) index 0) =
    c.level_taken-level.ensures.level ∙ ap (λ m. max (get_or c.args.levels.now index 0) m) (sym need) in
    part_stays rows shifts old c.args.levels.now c.args.seen.now c.args.risen.now c.args.view.round c.args.count start c.args.steps.now c.level_taken-level.new.steps index c.requires.inside c.requires.several
    c.if-seen-index.false (one_tick c.args.steps.now c.level_taken-level.new.steps (is_below_top row.size (get_or c.args.levels.now index 0)) c.level_taken-level.ensures.steps) (tick_up c.args.steps.now c.level_taken-level.new.steps (is_below_top row.size (get_or c.args.levels.now index 0)) c.level_taken-level.ensures.steps) part (omega arith))

pub returns-clause-part : goal.returns-clause-part
returns-clause-part g c = λ old start part. (
    let rows = c.args.view.rows.now in
    let shifts = c.args.view.shifts.now in
    let index = c.args.index in
    let row = get_or rows index c.index-view-index.result in
    let need = needs_at shifts rows index row c.requires.inside (get_or_default rows index c.index-view-index.result row c.requires.inside) in
    let level : c.level_taken-level.result ≡ max (get_or c.args.levels.now index 0) (get_or (levels_needed shifts rows) index 0) =
    c.level_taken-level.ensures.level ∙ ap (λ m. max (get_or c.args.levels.now index 0) m) (sym need) in
    rw c.note.ensures (part_rises rows shifts old c.args.levels.now c.args.seen.now c.args.risen.now c.args.view.round c.args.count start c.args.steps.now c.level_taken-level.new.steps index c.requires.inside c.requires.several
    c.if-seen-index.false (one_tick c.args.steps.now c.level_taken-level.new.steps (is_below_top row.size (get_or c.args.levels.now index 0)) c.level_taken-level.ensures.steps) (tick_up c.args.steps.now c.level_taken-level.new.steps (is_below_top row.size (get_or c.args.levels.now index 0)) c.level_taken-level.ensures.steps) part c.level_taken-level.result level (omega arith)))
