use Rattle.std.proofs.Common.{◌≡◌, sym, subst, ◌∙◌}
use Rattle.code_functions.specs.Recorded.{added}
use Rattle.code_functions.proofs.TallyLemmas.{added_either, none_counted}
use Rattle.code_functions.proofs.recording.Functions.add.Goals as goal

pub invariant_of-self : goal.invariant_of-self
invariant_of-self c =
    added_either c.add.result c.args.section c.args.item c.self.inside.counts c.self.inside.open c.self.inside.numbers c.self.inside.first c.self.inside.spans
    c.add.new.self c.self.invariant c.add.ensures.ok c.add.ensures.err

pub returns-then-get-eq0-clause-ok : goal.returns-then-get-eq0-clause-ok
returns-then-get-eq0-clause-ok c =
    subst (λ fs. fs ≡ added c.args.section c.args.item fs) c.self.view_is
    (sym (none_counted c.args.section c.args.item c.self.inside.counts c.self.inside.open c.self.inside.spans c.self.invariant.counted
    (sym c.get.ensures ∙ c.if-get-eq0.true)))
