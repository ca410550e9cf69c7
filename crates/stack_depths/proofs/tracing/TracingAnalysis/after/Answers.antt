use Rattle.std.proofs.Common.{◌≡◌, ◌≤◌, slice_get, length, Some, refl, sym, ap, arith, ◌∙◌}
use Rattle.std.proofs.lemmas.Option.{slice_get_past, slice_get_read}
use Rattle.stack_depths.specs.Distances.{distance_over}
use Rattle.stack_depths.specs.States.{depth_rules, known}
use Rattle.stack_depths.proofs.DepthLemmas.{weight_of, after_case}
use Rattle.stack_depths.proofs.tracing.TracingAnalysis.after.Goals as goal

pub returns-in-None-clause-holds : goal.returns-in-None-clause-holds
unfolding depth_rules
returns-in-None-clause-holds c =
    let x = c.in-None.ensures.lookup in
    let past : length c.args.self.now.items.now ≤ c.args.item = let y = x.3 in omega arith in
    let none = slice_get_past c.args.self.now.items.now c.args.item past in
    after_case (slice_get c.args.self.now.items.now c.args.item) c.args.before.now c.args.before.now c.told-before (λ q h. ap (λ o. distance_over o (known c.args.before.now) q) (sym none))

pub returns-in-None-clause-weight : goal.returns-in-None-clause-weight
unfolding depth_rules
returns-in-None-clause-weight c = let w = weight_of c.args.before.now in let l = c.told-before in omega arith

pub returns-in-Some-clause-holds : goal.returns-in-Some-clause-holds
unfolding depth_rules
returns-in-Some-clause-holds c =
    let x = c.in-Some.ensures.lookup in
    let there : slice_get c.args.self.now.items.now c.args.item ≡ Some c.in-Some.found.now = slice_get_read c.args.self.now.items.now (length c.args.self.now.items.now) c.args.item c.in-Some.found.now refl x.3.0 x.1 in
    after_case (slice_get c.args.self.now.items.now c.args.item) c.args.before.now c.moved_all.result c.told-before (λ q h. c.moved_all.ensures.at q h ∙ ap (λ o. distance_over o (known c.args.before.now) q) (sym there))

pub returns-in-Some-clause-weight : goal.returns-in-Some-clause-weight
unfolding depth_rules
returns-in-Some-clause-weight c = let w = weight_of c.moved_all.result in let l = c.moved_all.ensures.long in omega arith
