use Rattle.std.proofs.Common.{◌≡◌, ◌+◌, ◌≤◌, Some, length, slice_get, refl, sym, ap, ◌∙◌, arith}
use Rattle.std.proofs.lemmas.Option.{slice_get_past, slice_get_read}
use Rattle.stack_depths.specs.States.{distances_in}
use Rattle.stack_facts.specs.Facts.{is_at, facts_over_by, saved_over}
use Rattle.stack_facts.specs.Sets.{holds_in}
use Rattle.stack_facts.specs.States.{fact_rules}
use Rattle.stack_facts.proofs.SetLemmas.{few_counted}
use Rattle.stack_facts.proofs.FactLemmas.{after_case, stays}
use Rattle.stack_facts.proofs.tables.WordPassingAnalysis.after.Goals as goal

pub first-requires : goal.first-requires
first-requires c = let f = c.args.self.now.few in omega arith

pub returns-in-None-clause-holds : goal.returns-in-None-clause-holds
unfolding fact_rules
returns-in-None-clause-holds c =
    let s = c.args.self.now in
    let x = c.in-None.ensures.lookup in
    let past : length s.items.now ≤ c.args.item = let y = x.3 in omega arith in
    let none = slice_get_past s.items.now c.args.item past in
    let known = distances_in s.depths.now c.args.item in
    after_case s.clauses (slice_get s.items.now c.args.item) known s.slots.now c.args.before.now c.first.result
    (λ f. stays s.slots.now c.args.before.now c.first.result c.first.ensures.low f ∙ ap (λ o. facts_over_by s.clauses o known (holds_in s.slots.now c.args.before.now) f) (sym none))

pub returns-in-None-clause-weight : goal.returns-in-None-clause-weight
unfolding fact_rules
returns-in-None-clause-weight c = few_counted c.first.result (6 + length c.args.self.now.slots.now) c.first.ensures.high

pub word_after-requires-clause-plain : goal.word_after-requires-clause-plain
word_after-requires-clause-plain c = c.args.self.now.table.plain

pub word_after-requires-clause-saved : goal.word_after-requires-clause-saved
word_after-requires-clause-saved c =
    let s = c.args.self.now in
    let x = c.in-Some.ensures.lookup in
    let known = distances_in s.depths.now c.args.item in
    let there : slice_get s.items.now c.args.item ≡ Some c.in-Some.found.now = slice_get_read s.items.now (length s.items.now) c.args.item c.in-Some.found.now refl x.3.0 x.1 in
    λ n r h. s.table.all c.args.item n r x.3.0 (ap (λ o. is_at (saved_over o known) n r) there ∙ h)

pub returns-in-Some-clause-holds : goal.returns-in-Some-clause-holds
unfolding fact_rules
returns-in-Some-clause-holds c =
    let s = c.args.self.now in
    let x = c.in-Some.ensures.lookup in
    let known = distances_in s.depths.now c.args.item in
    let there : slice_get s.items.now c.args.item ≡ Some c.in-Some.found.now = slice_get_read s.items.now (length s.items.now) c.args.item c.in-Some.found.now refl x.3.0 x.1 in
    let stood = holds_in s.slots.now c.args.before.now in
    after_case s.clauses (slice_get s.items.now c.args.item) known s.slots.now c.args.before.now c.word_after.result
    (λ f. c.word_after.ensures.at f ∙ ap (λ o. facts_over_by s.clauses o known stood f) (sym there))

pub returns-in-Some-clause-weight : goal.returns-in-Some-clause-weight
unfolding fact_rules
returns-in-Some-clause-weight c = few_counted c.word_after.result (6 + length c.args.self.now.slots.now) c.word_after.ensures.high
