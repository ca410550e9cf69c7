use Rattle.std.proofs.Common.{set, ap, ◌∙◌, arith}
use Rattle.code_functions.proofs.TallyLemmas.{begun_all}
use Rattle.code_functions.proofs.recording.Functions.begin.Goals as goal

pub invariant_of-self-2 : goal.invariant_of-self-2
invariant_of-self-2 c =
    begun_all c.args.symbol c.args.pos c.args.section c.args.start c.self.inside.spans c.self.inside.counts c.reach-2.new.self c.set-2.new.self c.self.inside.open
    c.self.inside.numbers c.reach.new.self c.set.new.self c.self.inside.first c.len-count.result c.get.result c.begin.new.self c.self.invariant
    c.reach.ensures.same (omega (arith, c.in_ok-reach.ensures.ok, c.index.ensures)) c.reach-2.ensures.same c.in_ok-reach-2.ensures.ok
    c.in_ok-begin.ensures.ok c.len-count.ensures (c.set.ensures ∙ ap (λ i. set c.reach.new.self i c.len-count.result) c.index-2.ensures)
    c.get.ensures c.set-2.ensures
