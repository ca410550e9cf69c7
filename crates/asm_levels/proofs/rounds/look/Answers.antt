-- One row more is looked at.
use Rattle.std.proofs.Common.{◌≡◌, ℕ, nat_lt, List, get_or, max, refl, subst, sym, ap, ◌∙◌, arith}
use Rattle.std.proofs.lemmas.Bool.{lt-ltb, le-ltb}
use Rattle.std.proofs.lemmas.List.{take_all, length-set}
use Rattle.asm_levels.specs.declared.rows.Row.{Row}
use Rattle.asm_levels.specs.Needs.{levels_needed, several}
use Rattle.asm_levels.specs.Standing.{NamesRows}
use Rattle.asm_levels.proofs.RowLemmas.{row_stands}
use Rattle.asm_levels.proofs.LookLemmas.{looked_none, looked_counted, looked_leave, listed_more, listed_same, inside_more, needs_at, several_more, several_take, lowest_looks, looks_few}
use Rattle.asm_levels.proofs.rounds.look.Goals as goal
use Rattle.asm_levels.proofs.rounds.look.Goals.{then-levels-index, else-levels-index}

pub loop-index-init : goal.loop-index-init
loop-index-init g c = record { looked = looked_none c.args.levels.now (levels_needed c.args.shifts.now c.args.rows.now); counted = omega arith; listed = λ room index before. absurd (omega arith); inside = λ at less room. absurd (omega arith); room = refl; at_most = omega arith; later = omega arith; lowest = λ zeros. omega arith }

pub level_taken-level-requires : goal.level_taken-level-requires
level_taken-level-requires g c =
    subst (λ (count : ℕ). NamesRows count c.index-rows-index.result.size) (sym c.requires.as_many_shifts)
    (row_stands c.args.rows.now c.loop-index.index c.index-rows-index.result c.loop-index-test.true c.index-rows-index.is c.requires.stand).names

pub loop-index-preserved : goal.loop-index-preserved
loop-index-preserved g c =
    let row = c.index-rows-index.result in
    let needs : List ℕ = levels_needed c.args.shifts.now c.args.rows.now in
    let need : get_or needs c.loop-index.index 0 ≡ _ = needs_at c.args.shifts.now c.args.rows.now c.loop-index.index row c.loop-index-test.true c.index-rows-index.is in
    let level : c.level_taken-level.result ≡ max (get_or c.loop-index.levels c.loop-index.index 0) (get_or needs c.loop-index.index 0) = c.level_taken-level.ensures.level ∙ ap (λ m. max (get_or c.loop-index.levels c.loop-index.index 0) m) (sym need) in
    let more = several_more c.args.rows.now c.loop-index.index row c.loop-index-test.true c.index-rows-index.is in
    let one = c.level_taken-level.ensures.steps in
    let few = looks_few row.size (get_or c.loop-index.levels c.loop-index.index 0) in
    record {
      looked = elim c.if-levels-index.branch [
        | then-levels-index w ↦ rw (w.levels-is, w.count-is) (looked_counted c.args.levels.now c.loop-index.levels needs c.loop-index.index c.level_taken-level.result c.loop-index.count (omega arith) level w.if-levels-index.true c.loop-index.invariant.looked)
        | else-levels-index w ↦ rw (w.levels-is, w.count-is) (looked_leave c.args.levels.now c.loop-index.levels needs c.loop-index.index c.level_taken-level.result (nat_lt 0 c.loop-index.count) level w.if-levels-index.false c.loop-index.invariant.looked)
      ];
      counted = elim c.if-levels-index.branch [
        | then-levels-index w ↦ rw w.count-is (let low = c.loop-index.invariant.counted in omega arith)
        | else-levels-index w ↦ rw w.count-is (let low = c.loop-index.invariant.counted in omega arith)
      ];
      listed = elim c.if-levels-index.branch [
        | then-levels-index w ↦ rw (w.levels-is, w.count-is, w.risen-is, w.note.ensures) (listed_more c.args.levels.now c.loop-index.levels c.loop-index.count c.loop-index.index c.level_taken-level.result c.loop-index.risen c.loop-index.invariant.listed)
        | else-levels-index w ↦ rw (w.levels-is, w.count-is, w.risen-is) (listed_same c.args.levels.now c.loop-index.levels c.loop-index.count c.loop-index.index c.loop-index.risen
            (c.loop-index.invariant.looked.rest c.loop-index.index (omega arith)) c.loop-index.invariant.listed)
      ];
      inside = elim c.if-levels-index.branch [
        | then-levels-index w ↦ rw (w.count-is, w.risen-is, w.note.ensures) (inside_more c.loop-index.risen c.loop-index.count c.loop-index.index c.loop-index.invariant.inside)
        | else-levels-index w ↦ rw (w.count-is, w.risen-is) (λ at less room. (let low = c.loop-index.invariant.inside at less room in omega arith))
      ];
      room = elim c.if-levels-index.branch [
        | then-levels-index w ↦ rw (w.risen-is, w.note.ensures) (length-set c.loop-index.risen c.loop-index.count c.loop-index.index ∙ c.loop-index.invariant.room)
        | else-levels-index w ↦ rw w.risen-is c.loop-index.invariant.room
      ];
      at_most = omega arith;
      later = omega arith;
      lowest = λ zeros. (
          let start : get_or c.args.levels.now c.loop-index.index 0 ≡ 0 = zeros c.loop-index.index 0 (omega arith) in
          let here : get_or c.loop-index.levels c.loop-index.index 0 ≡ 0 = c.loop-index.invariant.looked.rest c.loop-index.index (omega arith) ∙ start in
          let same = lowest_looks row.size (get_or c.loop-index.levels c.loop-index.index 0) here in
          let before = c.loop-index.invariant.lowest zeros in
          omega arith
          );
    }

pub returns-clause-levels : goal.returns-clause-levels
returns-clause-levels g c =
    c.raised_by_index.ensures.only c.args.levels.now (levels_needed c.args.shifts.now c.args.rows.now) c.loop-index.levels (omega arith) (λ k inside. c.loop-index.invariant.looked.raised k (omega arith))

pub returns-clause-rose : goal.returns-clause-rose
returns-clause-rose g c = λ some. (let found = c.loop-index.invariant.looked.rises (lt-ltb 0 c.loop-index.count some) in (found.0, omega arith, found.2))

pub returns-clause-still : goal.returns-clause-still
returns-clause-still g c = λ none. c.loop-index.invariant.looked.still (le-ltb 0 c.loop-index.count (omega arith))

pub returns-clause-listed : goal.returns-clause-listed
returns-clause-listed g c = λ room index within. c.loop-index.invariant.listed room index (omega arith)

pub returns-clause-at_most : goal.returns-clause-at_most
returns-clause-at_most g c = let all = several_take c.args.rows.now c.loop-index.index in omega arith

pub returns-clause-lowest : goal.returns-clause-lowest
returns-clause-lowest g c = λ zeros. (
    let all = take_all c.loop-index.index c.args.rows.now (omega arith) in
    let same = ap (λ (xs : List Row). several xs) all in
    let before = c.loop-index.invariant.lowest zeros in
    omega arith
    )
