-- The levels that settling gives are those that the plan has then.
use Rattle.std.proofs.Common.{rules, ◌≡◌, ◌≤◌, ◌<◌, ◌++◌, ℕ, List, length, get_or, take, drop, sym, ◌∙◌, subst, arith}
use Rattle.std.proofs.lemmas.List.{take_all, take-append-le}
use Rattle.level_ranks.specs.Ranks.{IsLayout}
use Rattle.asm_levels.specs.declared.rows.Row.{Row}
use Rattle.asm_levels.specs.Needs.{need, tops}
use Rattle.asm_levels.specs.Shifts.{shifts_of}
use Rattle.row_plans.proofs.plans.RowPlan.settle.Goals as goal

whole : (count : ℕ) (list rest : List ℕ) → length list ≡ count → take count (list ++ rest) ≡ list
whole count list rest long = take-append-le count list rest (omega arith) ∙ take_all count list (omega arith)

pub returns-clause-layout : goal.returns-clause-layout
returns-clause-layout g c =
    let new = c.settle.new.levels in
    let old = c.self.inside.levels in
    let is = c.deref_mut-2.ensures.value in
    let made = c.settle.auto.levels in
    let long = old.ok.0 in
    let same : take old.len (new ++ drop (length new) old.items) ≡ new = whole old.len new (drop (length new) old.items) (omega arith) in
    let rows : c.deref.result.now ≡ c.args.self.now.rows = search rules in
    subst (λ (levels : List ℕ). IsLayout (need c.args.self.now.rows) (tops c.args.self.now.rows) levels c.settle.result) (sym same)
    (subst (λ (all : List Row). IsLayout (need all) (tops all) new c.settle.result) rows c.settle.ensures.layout)

pub returns-clause-small : goal.returns-clause-small
returns-clause-small g c = c.settle.ensures.small

pub returns-clause-shifts : goal.returns-clause-shifts
returns-clause-shifts g c =
    let new = c.settle.new.levels in
    let old = c.self.inside.levels in
    let is = c.deref_mut-2.ensures.value in
    let made = c.settle.auto.levels in
    let long = old.ok.0 in
    let same : take old.len (new ++ drop (length new) old.items) ≡ new = whole old.len new (drop (length new) old.items) (omega arith) in
    let rows : c.deref.result.now ≡ c.args.self.now.rows = search rules in
    subst (λ (levels : List ℕ). c.settle.new.shifts ≡ shifts_of c.args.self.now.rows levels) (sym same)
    (subst (λ (all : List Row). c.settle.new.shifts ≡ shifts_of all new) rows c.settle.ensures.shifts)

pub returns-clause-holds : goal.returns-clause-holds
returns-clause-holds g c =
    let new = c.settle.new.levels in
    let old = c.self.inside.levels in
    let is = c.deref_mut-2.ensures.value in
    let made = c.settle.auto.levels in
    let long = old.ok.0 in
    let same : take old.len (new ++ drop (length new) old.items) ≡ new = whole old.len new (drop (length new) old.items) (omega arith) in
    let rows : c.deref.result.now ≡ c.args.self.now.rows = search rules in
    let holds : (index : ℕ) → index < length c.args.self.now.rows → get_or (need c.args.self.now.rows new) index 0 ≤ get_or new index 0 =
    subst (λ (all : List Row). (index : ℕ) → index < length all → get_or (need all new) index 0 ≤ get_or new index 0) rows c.settle.ensures.holds in
    subst (λ (levels : List ℕ). (index : ℕ) → index < length c.args.self.now.rows → get_or (need c.args.self.now.rows levels) index 0 ≤ get_or levels index 0) (sym same) holds

pub returns-clause-highest : goal.returns-clause-highest
returns-clause-highest g c =
    let new = c.settle.new.levels in
    let old = c.self.inside.levels in
    let is = c.deref_mut-2.ensures.value in
    let made = c.settle.auto.levels in
    let long = old.ok.0 in
    let same : take old.len (new ++ drop (length new) old.items) ≡ new = whole old.len new (drop (length new) old.items) (omega arith) in
    let rows : c.deref.result.now ≡ c.args.self.now.rows = search rules in
    let highest : (index : ℕ) → index < length c.args.self.now.rows → get_or new index 0 ≤ get_or (tops c.args.self.now.rows) index 0 =
    subst (λ (all : List Row). (index : ℕ) → index < length all → get_or new index 0 ≤ get_or (tops all) index 0) rows c.settle.ensures.highest in
    subst (λ (levels : List ℕ). (index : ℕ) → index < length c.args.self.now.rows → get_or levels index 0 ≤ get_or (tops c.args.self.now.rows) index 0) (sym same) highest
