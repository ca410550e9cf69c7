-- One round more.
use Rattle.std.proofs.Common.{◌≡◌, ◌<◌, ◌≤◌, ◌+◌, ◌^◌, ℕ, List, length, get_or, refl, sym, ap, ◌∙◌, subst, arith}
use Rattle.std.specs.List.{All}
use Rattle.level_ranks.specs.Ranks.{IsLayout}
use Rattle.level_ranks.specs.Rounds.{raised}
use Rattle.asm_levels.specs.Needs.{need, tops, several, levels_needed}
use Rattle.asm_levels.specs.Watching.{AreWatchers}
use Rattle.row_plans.proofs.CalmLemmas.{calm_if}
use Rattle.row_plans.proofs.RoundLemmas.{first_levels, lowest_still, at_least_once}
use Rattle.row_plans.proofs.RowOrder.{shifts_in_row}
use Rattle.row_plans.proofs.SizedLemmas.{sized_but, shifts_small}
use Rattle.row_plans.proofs.WideLemmas.{several_first, inside_take, highest_raised, watchers_same}
use Rattle.row_plans.proofs.LevelLemmas.{nine_from, length-tops, sum-tops-le, need_is}
use Rattle.row_plans.proofs.settling.settle.Goals as goal

pub loop-rounds-init : goal.loop-rounds-init
loop-rounds-init g c = let tops_long = length-tops c.args.all.rows.now in record {
  placed = c.place.ensures;
  many_shifts = ap (λ (all : List ℕ). length all) c.place.ensures ∙ (shifts_in_row c.args.all.rows.now c.args.levels.now c.requires.stand).count;
  after = c.one_round_more.ensures.none (need c.args.all.rows.now) (tops c.args.all.rows.now) c.args.levels.now (omega arith) c.requires.lowest (c.needs_stay_within_tops.ensures c.args.all.rows.now);
  at_most = omega arith;
  at_least = λ some. omega arith;
  from_start = omega arith;
  many_seen = omega arith;
  stamps = λ at. (let unseen = c.forget.ensures.unseen at in omega arith);
  many_passed = omega arith;
  stamps_passed = λ at. (let unseen = c.forget-2.ensures.unseen at in omega arith);
  first = λ none. refl;
  room = omega arith;
  end = tt;
  inside = tt;
  calm = tt;
  left = omega arith;
  highest = λ at low less. absurd (omega arith);
  watchers = c.requires.watchers;
}

pub look_where-count-requires-clause-linked : goal.look_where-count-requires-clause-linked
look_where-count-requires-clause-linked g c = c.loop-rounds.invariant.watchers.linked

pub look_where-count-requires-clause-several : goal.look_where-count-requires-clause-several
look_where-count-requires-clause-several g c = c.loop-rounds.invariant.watchers.several

pub look_where-count-requires-clause-many_follows : goal.look_where-count-requires-clause-many_follows
look_where-count-requires-clause-many_follows g c = c.loop-rounds.invariant.watchers.many_follows

pub look_where-count-requires-clause-followers : goal.look_where-count-requires-clause-followers
look_where-count-requires-clause-followers g c = c.loop-rounds.invariant.watchers.followers

pub look_where-count-requires-clause-calm : goal.look_where-count-requires-clause-calm
look_where-count-requires-clause-calm g c = c.loop-rounds.invariant.calm

pub look_where-count-requires-clause-end : goal.look_where-count-requires-clause-end
look_where-count-requires-clause-end g c = c.loop-rounds.invariant.end

pub look_where-count-requires-clause-inside : goal.look_where-count-requires-clause-inside
look_where-count-requires-clause-inside g c = c.loop-rounds.invariant.inside

pub put_highest_last-left-requires-clause-inside : goal.put_highest_last-left-requires-clause-inside
put_highest_last-left-requires-clause-inside g c = c.loop-rounds.invariant.watchers.wide_within

pub move_rows-moved-requires-clause-stand : goal.move_rows-moved-requires-clause-stand
move_rows-moved-requires-clause-stand g c = c.requires.stand

pub move_rows-moved-requires-clause-ends : goal.move_rows-moved-requires-clause-ends
move_rows-moved-requires-clause-ends g c = c.requires.ends

pub move_rows-moved-requires-clause-dependents : goal.move_rows-moved-requires-clause-dependents
move_rows-moved-requires-clause-dependents g c = c.requires.dependents

pub returns-then-count-eq0-clause-watchers : goal.returns-then-count-eq0-clause-watchers
returns-then-count-eq0-clause-watchers g c = c.loop-rounds.invariant.watchers

pub look_where-count-requires-clause-wide_several : goal.look_where-count-requires-clause-wide_several
look_where-count-requires-clause-wide_several g c = several_first c.args.all.rows.now c.loop-rounds.wide c.loop-rounds.left c.loop-rounds.invariant.watchers.wide_several

pub look_where-count-requires-clause-wide_within : goal.look_where-count-requires-clause-wide_within
look_where-count-requires-clause-wide_within g c = inside_take c.loop-rounds.wide c.loop-rounds.left (length c.args.all.rows.now) c.loop-rounds.invariant.watchers.wide_within

pub put_highest_last-left-requires-clause-highest : goal.put_highest_last-left-requires-clause-highest
put_highest_last-left-requires-clause-highest g c = highest_raised c.args.all.rows.now c.loop-rounds.levels c.look_where-count.new.levels c.loop-rounds.left c.loop-rounds.wide
    (λ index within.
    let level = c.raised_by_index.ensures.level c.loop-rounds.levels (levels_needed c.loop-rounds.shifts c.args.all.rows.now) index (omega arith) in
    let same : get_or c.look_where-count.new.levels index 0 ≡ get_or (raised c.loop-rounds.levels (levels_needed c.loop-rounds.shifts c.args.all.rows.now)) index 0 = ap (λ (xs : List ℕ). get_or xs index 0) c.look_where-count.ensures.levels in
    omega arith)
    c.loop-rounds.invariant.watchers.wide_within c.loop-rounds.invariant.highest

pub place-requires-clause-levels : goal.place-requires-clause-levels
place-requires-clause-levels g c = λ index default within. (let lowest = c.requires.lowest index default within in omega arith)

pub move_rows-moved-requires-clause-levels : goal.move_rows-moved-requires-clause-levels
move_rows-moved-requires-clause-levels g c =
    let rows = c.args.all.rows.now in
    let new : c.look_where-count.new.levels ≡ raised c.loop-rounds.levels (need rows c.loop-rounds.levels) =
    c.look_where-count.ensures.levels ∙ ap (λ (needs : List ℕ). raised c.loop-rounds.levels needs) (need_is rows c.loop-rounds.levels c.loop-rounds.shifts c.loop-rounds.invariant.placed) in
    let after = c.one_round_more.ensures.more (need rows) (tops rows) c.args.levels.now c.loop-rounds.levels c.look_where-count.new.levels c.loop-rounds.rounds c.loop-rounds.invariant.after new (c.look_where-count.ensures.rose (let some = c.if-count-eq0.false in omega arith)) in
    nine_from rows c.look_where-count.new.levels
    (c.levels_stay_within.ensures.items (need rows) (tops rows) c.args.levels.now c.look_where-count.new.levels (c.loop-rounds.rounds + 1) after)
    (λ index inside. c.levels_stay_within.ensures.tops (need rows) (tops rows) c.args.levels.now c.look_where-count.new.levels (c.loop-rounds.rounds + 1) index after inside)

pub move_rows-moved-requires-clause-sized : goal.move_rows-moved-requires-clause-sized
move_rows-moved-requires-clause-sized g c = λ room. (
    let rows = c.args.all.rows.now in
    let long = length-tops rows in
    let many = c.levels_stay_within.ensures.items (need rows) (tops rows) c.args.levels.now c.loop-rounds.levels c.loop-rounds.rounds c.loop-rounds.invariant.after in
    let nine = nine_from rows c.loop-rounds.levels many
    (λ index inside. c.levels_stay_within.ensures.tops (need rows) (tops rows) c.args.levels.now c.loop-rounds.levels c.loop-rounds.rounds index c.loop-rounds.invariant.after inside) in
    let small = subst (λ (all : List ℕ). All (λ shift. shift < 2 ^ 62) all) (sym c.loop-rounds.invariant.placed) (shifts_small rows c.loop-rounds.levels c.requires.stand nine (many ∙ long) c.requires.bytes) in
    sized_but rows c.loop-rounds.levels c.look_where-count.new.levels c.loop-rounds.shifts c.look_where-count.result c.look_where-count.new.risen c.requires.stand (many ∙ long)
    c.loop-rounds.invariant.placed small c.look_where-count.ensures.listed room)

pub overflow_add-rounds : goal.overflow_add-rounds
overflow_add-rounds g c =
    let few = c.rounds_are_few.ensures (need c.args.all.rows.now) (tops c.args.all.rows.now) c.args.levels.now c.loop-rounds.levels c.loop-rounds.rounds c.loop-rounds.invariant.after in
    let all = sum-tops-le c.args.all.rows.now in
    omega arith

pub loop-rounds-smaller : goal.loop-rounds-smaller
loop-rounds-smaller g c =
    let few = c.rounds_are_few.ensures (need c.args.all.rows.now) (tops c.args.all.rows.now) c.args.levels.now c.loop-rounds.levels c.loop-rounds.rounds c.loop-rounds.invariant.after in
    omega arith

pub loop-rounds-preserved : goal.loop-rounds-preserved
loop-rounds-preserved g c =
    let rows = c.args.all.rows.now in
    let new : c.look_where-count.new.levels ≡ raised c.loop-rounds.levels (need rows c.loop-rounds.levels) =
    c.look_where-count.ensures.levels ∙ ap (λ (needs : List ℕ). raised c.loop-rounds.levels needs) (need_is rows c.loop-rounds.levels c.loop-rounds.shifts c.loop-rounds.invariant.placed) in
    let long = length-tops rows in
    let many = c.levels_stay_within.ensures.items (need rows) (tops rows) c.args.levels.now c.loop-rounds.levels c.loop-rounds.rounds c.loop-rounds.invariant.after in
    let nine = nine_from rows c.loop-rounds.levels many
    (λ index inside. c.levels_stay_within.ensures.tops (need rows) (tops rows) c.args.levels.now c.loop-rounds.levels c.loop-rounds.rounds index c.loop-rounds.invariant.after inside) in
    let small = subst (λ (all : List ℕ). All (λ shift. shift < 2 ^ 62) all) (sym c.loop-rounds.invariant.placed) (shifts_small rows c.loop-rounds.levels c.requires.stand nine (many ∙ long) c.requires.bytes) in
    let after = c.one_round_more.ensures.more (need rows) (tops rows) c.args.levels.now c.loop-rounds.levels c.look_where-count.new.levels c.loop-rounds.rounds c.loop-rounds.invariant.after new (c.look_where-count.ensures.rose (let some = c.if-count-eq0.false in omega arith)) in
    let many_later = c.levels_stay_within.ensures.items (need rows) (tops rows) c.args.levels.now c.look_where-count.new.levels (c.loop-rounds.rounds + 1) after in
    let entries = c.args.entries.now in
    let wide = c.put_highest_last-left.new.list in
    let watchers : AreWatchers rows c.args.all.ends.now entries.rows.items entries.nodes.items entries.heads.items entries.links.items entries.follows.items wide = watchers_same rows c.args.all.ends.now entries.rows.items entries.nodes.items entries.heads.items
    entries.links.items entries.follows.items c.loop-rounds.wide wide c.put_highest_last-left.ensures.same_rows c.loop-rounds.invariant.watchers in
    let nine_later = nine_from rows c.look_where-count.new.levels many_later
    (λ index inside. c.levels_stay_within.ensures.tops (need rows) (tops rows) c.args.levels.now c.look_where-count.new.levels (c.loop-rounds.rounds + 1) index after inside) in
    let small_later = subst (λ (all : List ℕ). All (λ shift. shift < 2 ^ 62) all) (sym c.move_rows-moved.ensures.shifts) (shifts_small rows c.look_where-count.new.levels c.requires.stand nine_later (many_later ∙ long) c.requires.bytes) in
    let holds : (index : ℕ) → index < length rows → get_or (levels_needed c.loop-rounds.shifts rows) index 0 ≤ get_or c.look_where-count.new.levels index 0 = (λ index within.
    let level = c.raised_by_index.ensures.level c.loop-rounds.levels (levels_needed c.loop-rounds.shifts rows) index (omega arith) in
    let same : get_or c.look_where-count.new.levels index 0 ≡ get_or (raised c.loop-rounds.levels (levels_needed c.loop-rounds.shifts rows)) index 0 = ap (λ (xs : List ℕ). get_or xs index 0) c.look_where-count.ensures.levels in
    omega arith) in
    record {
      placed = c.move_rows-moved.ensures.shifts;
      many_shifts = ap (λ (all : List ℕ). length all) c.move_rows-moved.ensures.shifts ∙ (shifts_in_row rows c.look_where-count.new.levels c.requires.stand).count;
      after = after;
      at_most = omega arith;
      at_least = λ some. at_least_once (c.args.steps.now) c.loop-rounds.steps c.look_where-count.new.steps (several rows) c.loop-rounds.rounds c.loop-rounds.invariant.from_start c.loop-rounds.invariant.at_least c.look_where-count.ensures.at_least
          (λ none. c.look_where-count.ensures.lowest (c.loop-rounds.invariant.first none) (lowest_still c.args.levels.now c.loop-rounds.levels (first_levels (need rows) (tops rows) c.args.levels.now c.loop-rounds.levels c.loop-rounds.rounds c.loop-rounds.invariant.after none) c.requires.lowest));
      from_start = omega arith;
      many_seen = omega arith;
      stamps = c.look_where-count.ensures.seen;
      many_passed = omega arith;
      stamps_passed = c.look_where-count.ensures.passed;
      first = λ none. absurd (omega arith);
      room = omega arith;
      end = c.move_rows-moved.ensures.end;
      inside = c.move_rows-moved.ensures.within;
      calm = calm_if c.needs_stay_within_tops_everywhere.ensures rows c.args.all.ends.now c.loop-rounds.shifts c.move_rows-moved.new.shifts c.move_rows-moved.new.touched
          entries.rows.items entries.nodes.items entries.follows.items wide c.look_where-count.new.levels c.put_highest_last-left.result c.move_rows-moved.result
          c.requires.ends small small_later watchers.covered c.put_highest_last-left.ensures.highest holds c.move_rows-moved.ensures.resized;
      left = c.put_highest_last-left.ensures.end;
      highest = c.put_highest_last-left.ensures.highest;
      watchers = watchers;
    }

pub returns-then-count-eq0-clause-layout : goal.returns-then-count-eq0-clause-layout
returns-then-count-eq0-clause-layout g c =
    let rows = c.args.all.rows.now in
    let new : c.look_where-count.new.levels ≡ raised c.loop-rounds.levels (need rows c.loop-rounds.levels) =
    c.look_where-count.ensures.levels ∙ ap (λ (needs : List ℕ). raised c.loop-rounds.levels needs) (need_is rows c.loop-rounds.levels c.loop-rounds.shifts c.loop-rounds.invariant.placed) in
    let still = c.look_where-count.ensures.still c.if-count-eq0.true in
    subst (λ (xs : List ℕ). IsLayout (need rows) (tops rows) xs (c.loop-rounds.rounds + 1)) (sym still)
    (c.rounds_reach_the_layout.ensures (need rows) (tops rows) c.args.levels.now c.loop-rounds.levels c.loop-rounds.rounds c.loop-rounds.invariant.after (sym new ∙ still))

pub returns-then-count-eq0-clause-holds : goal.returns-then-count-eq0-clause-holds
returns-then-count-eq0-clause-holds g c = λ index inside. (
    let rows = c.args.all.rows.now in
    let new : c.look_where-count.new.levels ≡ raised c.loop-rounds.levels (need rows c.loop-rounds.levels) =
    c.look_where-count.ensures.levels ∙ ap (λ (needs : List ℕ). raised c.loop-rounds.levels needs) (need_is rows c.loop-rounds.levels c.loop-rounds.shifts c.loop-rounds.invariant.placed) in
    let still = c.look_where-count.ensures.still c.if-count-eq0.true in
    let holds = c.levels_hold.ensures (need rows) c.loop-rounds.levels index (sym new ∙ still) (omega arith) in
    subst (λ (xs : List ℕ). get_or (need rows xs) index 0 ≤ get_or xs index 0) (sym still) holds
    )

pub returns-then-count-eq0-clause-rounds : goal.returns-then-count-eq0-clause-rounds
returns-then-count-eq0-clause-rounds g c =
    let few = c.rounds_are_few.ensures (need c.args.all.rows.now) (tops c.args.all.rows.now) c.args.levels.now c.loop-rounds.levels c.loop-rounds.rounds c.loop-rounds.invariant.after in
    omega arith

pub returns-then-count-eq0-clause-at_least : goal.returns-then-count-eq0-clause-at_least
returns-then-count-eq0-clause-at_least g c =
    let rows = c.args.all.rows.now in
    at_least_once (c.args.steps.now) c.loop-rounds.steps c.look_where-count.new.steps (several rows) c.loop-rounds.rounds c.loop-rounds.invariant.from_start c.loop-rounds.invariant.at_least c.look_where-count.ensures.at_least
    (λ none. c.look_where-count.ensures.lowest (c.loop-rounds.invariant.first none) (lowest_still c.args.levels.now c.loop-rounds.levels (first_levels (need rows) (tops rows) c.args.levels.now c.loop-rounds.levels c.loop-rounds.rounds c.loop-rounds.invariant.after none) c.requires.lowest))

pub returns-then-count-eq0-clause-highest : goal.returns-then-count-eq0-clause-highest
returns-then-count-eq0-clause-highest g c = λ index inside. (
    let rows = c.args.all.rows.now in
    let long = length-tops rows in
    let low = c.levels_stay_within.ensures.tops (need rows) (tops rows) c.args.levels.now c.loop-rounds.levels c.loop-rounds.rounds index c.loop-rounds.invariant.after (omega arith) in
    subst (λ (xs : List ℕ). get_or xs index 0 ≤ get_or (tops rows) index 0) (sym (c.look_where-count.ensures.still c.if-count-eq0.true)) low
    )

pub returns-then-count-eq0-clause-small : goal.returns-then-count-eq0-clause-small
returns-then-count-eq0-clause-small g c =
    let rows = c.args.all.rows.now in
    let long = length-tops rows in
    let many = c.levels_stay_within.ensures.items (need rows) (tops rows) c.args.levels.now c.loop-rounds.levels c.loop-rounds.rounds c.loop-rounds.invariant.after in
    let nine = nine_from rows c.loop-rounds.levels many
    (λ index inside. c.levels_stay_within.ensures.tops (need rows) (tops rows) c.args.levels.now c.loop-rounds.levels c.loop-rounds.rounds index c.loop-rounds.invariant.after inside) in
    subst (λ (all : List ℕ). All (λ shift. shift < 2 ^ 62) all) (sym c.loop-rounds.invariant.placed) (shifts_small rows c.loop-rounds.levels c.requires.stand nine (many ∙ long) c.requires.bytes)
