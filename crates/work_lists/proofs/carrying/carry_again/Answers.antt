use Rattle.std.proofs.Common.{None, inl, inr, refl}
use Rattle.std.proofs.lemmas.List.{get_or_read}
use Rattle.work_lists.proofs.CarriedLemmas.{carried_met}
use Rattle.work_lists.proofs.carrying.carry_again.Goals as goal

pub returns-in_ok-push-in-Some : goal.returns-in_ok-push-in-Some
returns-in_ok-push-in-Some g c =
    let there = get_or_read c.args.states.now.items c.args.j c.index_mut.result.now c.requires.place c.index_mut.ensures.value None in
    carried_met (g.A.Analysis.rules c.args.analysis.now) c.args.states.now.items _ c.args.todo.now.items c.push-then-changed.new.self.items c.args.j c.args.out.now c.in-Some.state c.meet.new.into (cc c.in-Some.ensures.value) c.in_ok-changed-in-Some.ensures.holds (inr (c.in_ok-push-in-Some.ensures.items, c.in_ok-changed-in-Some.ensures.less c.if-changed.true))

pub returns-else-changed : goal.returns-else-changed
returns-else-changed g c =
    let there = get_or_read c.args.states.now.items c.args.j c.index_mut.result.now c.requires.place c.index_mut.ensures.value None in
    carried_met (g.A.Analysis.rules c.args.analysis.now) c.args.states.now.items _ c.args.todo.now.items c.args.todo.now.items c.args.j c.args.out.now c.in-Some.state c.meet.new.into (cc c.in-Some.ensures.value) c.in_ok-changed-in-Some.ensures.holds (inl (refl, c.in_ok-changed-in-Some.ensures.same c.if-changed.false))
