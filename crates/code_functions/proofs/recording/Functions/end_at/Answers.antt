use Rattle.std.proofs.Common.{◌≡◌, true, ap, ◌∙◌}
use Rattle.std.specs.Prelude.{not}
use Rattle.std.specs.Option.{is_none}
use Rattle.code_functions.proofs.EndingLemmas.{extent_counted, extent_told}
use Rattle.code_functions.proofs.recording.Functions.end_at.Goals as goal

pub overflow_sub-get : goal.overflow_sub-get
overflow_sub-get g c =
    let open_now : is_none c.extent-extent.result.stop ≡ true = ap not c.is_none.ensures ∙ ap (λ b. not (not b)) c.if-is_none.true in
    rw c.get.ensures (extent_counted (g.E.SectionEnds.ends c.args.ends.now) c.self.inside.counts c.self.inside.open c.self.inside.numbers c.self.inside.first c.args.number
    c.self.inside.spans c.extent-extent.result c.self.invariant c.extent-extent.ensures open_now).0

pub overflow_sub-self : goal.overflow_sub-self
overflow_sub-self g c =
    let open_now : is_none c.extent-extent.result.stop ≡ true = ap not c.is_none.ensures ∙ ap (λ b. not (not b)) c.if-is_none.true in
    (extent_counted (g.E.SectionEnds.ends c.args.ends.now) c.self.inside.counts c.self.inside.open c.self.inside.numbers c.self.inside.first c.args.number
    c.self.inside.spans c.extent-extent.result c.self.invariant c.extent-extent.ensures open_now).1

pub invariant_of-self : goal.invariant_of-self
invariant_of-self g c =
    let open_now : is_none c.extent-extent.result.stop ≡ true = ap not c.is_none.ensures ∙ ap (λ b. not (not b)) c.if-is_none.true in
    rw (c.set.ensures, c.get.ensures, c.end.ensures)
    (extent_told (g.E.SectionEnds.ends c.args.ends.now) c.self.inside.counts c.self.inside.open c.self.inside.numbers c.self.inside.first c.args.number
    c.self.inside.spans c.extent-extent.result c.self.invariant c.extent-extent.ensures open_now)
