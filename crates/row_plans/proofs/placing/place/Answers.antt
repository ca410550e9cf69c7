-- The next shift is written, and the one behind it follows from the row's size.
use Rattle.std.proofs.Common.{◌≡◌, ◌+◌, ◌^◌, ◌<◌, ◌≤◌, ℕ, List, length, get_or, take, set, sym, ap, ◌∙◌, subst, arith}
use Rattle.std.proofs.lemmas.List.{length-set, get_or-set_same}
use Rattle.asm_levels.specs.Shifts.{shift_behind}
use Rattle.row_plans.proofs.RowLemmas.{row_stands, org_wider, start_upto, most_at}
use Rattle.row_plans.proofs.RowOrder.{behind-take}
use Rattle.row_plans.proofs.ShiftLemmas.{shifts_start, shifts_step, shifts_end, next_within, done_within, done_at}
use Rattle.row_plans.proofs.placing.place.Goals as goal

pub loop-index-init : goal.loop-index-init
loop-index-init c = record { so_far = shifts_start c.args.rows.now c.args.levels.now; low = omega arith; within = λ k d h. absurd (omega arith); many = c.requires.as_many_shifts }

pub shift_behind-shift-requires-clause-align : goal.shift_behind-shift-requires-clause-align
shift_behind-shift-requires-clause-align c =
    (row_stands c.args.rows.now c.loop-index.index c.index-rows-index.result c.loop-index-test.true c.index-rows-index.is c.requires.stand).align

pub shift_behind-shift-requires-clause-org : goal.shift_behind-shift-requires-clause-org
shift_behind-shift-requires-clause-org c =
    let many = c.loop-index.invariant.many in
    let same = c.set.ensures in
    let long : length c.set.new.self ≡ length c.loop-index.shifts = ap (λ (xs : List ℕ). length xs) same ∙ length-set c.loop-index.shifts c.loop-index.index c.loop-index.shift in
    org_wider (c.loop-index.index + 1) (length c.set.new.self) c.index-rows-index.result.size (omega arith)
    (row_stands c.args.rows.now c.loop-index.index c.index-rows-index.result c.loop-index-test.true c.index-rows-index.is c.requires.stand).org

pub shift_behind-shift-requires-clause-start : goal.shift_behind-shift-requires-clause-start
shift_behind-shift-requires-clause-start c =
    let many = c.loop-index.invariant.many in
    start_upto c.set.new.self c.loop-index.index c.index-rows-index.result.size
    (row_stands c.args.rows.now c.loop-index.index c.index-rows-index.result c.loop-index-test.true c.index-rows-index.is c.requires.stand).org
    (subst (λ (xs : List ℕ). (at : ℕ) → at ≤ c.loop-index.index → get_or xs at 0 < 2 ^ 62) (sym c.set.ensures)
    (done_at (2 ^ 62) c.loop-index.shift c.loop-index.index c.args.rows.now c.loop-index.shifts (omega arith) c.loop-index.invariant.low c.requires.bytes c.loop-index.invariant.within))

pub shift_behind-shift-requires-clause-offset : goal.shift_behind-shift-requires-clause-offset
shift_behind-shift-requires-clause-offset c =
    (row_stands c.args.rows.now c.loop-index.index c.index-rows-index.result c.loop-index-test.true c.index-rows-index.is c.requires.stand).offset

pub shift_behind-shift-requires-clause-most : goal.shift_behind-shift-requires-clause-most
shift_behind-shift-requires-clause-most c = let most = most_at c.args.rows.now c.loop-index.index c.index-rows-index.result c.loop-index-test.true c.index-rows-index.is in omega arith

pub shift_behind-shift-requires-clause-shift : goal.shift_behind-shift-requires-clause-shift
shift_behind-shift-requires-clause-shift c =
    let many = c.loop-index.invariant.many in
    let own = done_at (2 ^ 62) c.loop-index.shift c.loop-index.index c.args.rows.now c.loop-index.shifts (omega arith) c.loop-index.invariant.low c.requires.bytes c.loop-index.invariant.within c.loop-index.index (omega arith) in
    let here : get_or (set c.loop-index.shifts c.loop-index.index c.loop-index.shift) c.loop-index.index 0 ≡ c.loop-index.shift = get_or-set_same c.loop-index.shifts c.loop-index.index c.loop-index.shift 0 (omega arith) in
    omega arith

pub loop-index-preserved : goal.loop-index-preserved
loop-index-preserved c =
    let row = c.index-rows-index.result in
    let many = c.loop-index.invariant.many in
    let old = c.loop-index.shifts in
    let index = c.loop-index.index in
    let shift = c.loop-index.shift in
    let level = get_or c.args.levels.now index 0 in
    let all : List ℕ = set old index shift in
    let org = (row_stands c.args.rows.now index row c.loop-index-test.true c.index-rows-index.is c.requires.stand).org in
    let same : c.set.new.self ≡ all = c.set.ensures in
    let next : c.shift_behind-shift.result ≡ shift_behind (take (index + 1) all) row level shift =
    c.shift_behind-shift.ensures ∙ (ap (λ (xs : List ℕ). shift_behind xs row level shift) same ∙ sym (behind-take all (index + 1) row level shift org)) in
    rw same (record {
      so_far = shifts_step old index shift c.shift_behind-shift.result c.args.rows.now c.args.levels.now row c.loop-index-test.true (omega arith) c.index-rows-index.is next ∙ c.loop-index.invariant.so_far;
      low = next_within old index shift c.shift_behind-shift.result c.args.rows.now c.args.levels.now row c.loop-index-test.true (omega arith) c.index-rows-index.is next
          (c.requires.levels index 0 (omega arith)) c.loop-index.invariant.low c.loop-index.invariant.within;
      within = done_within old index shift c.args.rows.now row c.loop-index-test.true (omega arith) c.index-rows-index.is c.loop-index.invariant.low c.loop-index.invariant.within;
      many = length-set old index shift ∙ many;
    })

pub returns : goal.returns
returns c = let many = c.loop-index.invariant.many in
    sym (shifts_end c.loop-index.shifts c.loop-index.index c.loop-index.shift c.args.rows.now c.args.levels.now (omega arith) many) ∙ c.loop-index.invariant.so_far
