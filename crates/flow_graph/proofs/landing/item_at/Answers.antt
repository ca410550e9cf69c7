-- The last item that begins up to the place, where it begins there.
use Rattle.std.proofs.Common.{sym, subst, ◌∙◌, arith}
use Rattle.flow_graph.specs.Targets.{IsCountUpTo}
use Rattle.flow_graph.proofs.LandingLemmas.{none_before, found_at, none_at}
use Rattle.flow_graph.proofs.landing.item_at.Goals as goal

pub returns-then-count-eq0-clause-item : goal.returns-then-count-eq0-clause-item
returns-then-count-eq0-clause-item c =
    sym (none_before c.args.place c.args.items.now c.requires (subst (IsCountUpTo c.args.items.now c.args.place) c.if-count-eq0.true c.count_up_to-count.ensures))

pub returns-then-same_place-clause-item : goal.returns-then-same_place-clause-item
returns-then-same_place-clause-item c =
    sym (found_at c.args.place c.args.items.now c.requires c.count_up_to-count.result _ c.count_up_to-count.ensures (omega arith) (sym c.same_place.ensures ∙ c.if-same_place.true))

pub returns-else-same_place-clause-item : goal.returns-else-same_place-clause-item
returns-else-same_place-clause-item c =
    sym (none_at c.args.place c.args.items.now c.requires c.count_up_to-count.result _ c.count_up_to-count.ensures (omega arith) (sym c.same_place.ensures ∙ c.if-same_place.false))
