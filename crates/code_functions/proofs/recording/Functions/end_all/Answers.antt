use Rattle.std.proofs.Common.{◌≡◌, length, ap, ◌∙◌, arith}
use Rattle.code_functions.proofs.EndingLemmas.{whole_at, told_whole}
use Rattle.code_functions.proofs.recording.Functions.end_all.Goals as goal

pub returns : goal.returns
returns g c =
    let long = ap length c.self.view_is in
    let all : c.loop-number.number ≡ length c.args.self.now =
    omega (arith, long, c.len-number-end.ensures, c.loop-number-test.false, c.loop-number.auto.number-end (omega (arith, c.len-number-end.ensures, c.self.invariant.ended.within))) in
    c.self-2.view_is ∙ c.loop-number.invariant ∙ whole_at (g.E.SectionEnds.ends c.args.ends.now) c.loop-number.number c.args.self.now all

pub invariant_of-self : goal.invariant_of-self
invariant_of-self g c =
    let long = ap length c.self.view_is in
    let all : c.loop-number.number ≡ length c.args.self.now =
    omega (arith, long, c.len-number-end.ensures, c.loop-number-test.false, c.loop-number.auto.number-end (omega (arith, c.len-number-end.ensures, c.self.invariant.ended.within))) in
    told_whole (g.E.SectionEnds.ends c.args.ends.now) c.self-2.inside.counts c.self-2.inside.open c.self-2.inside.numbers c.self-2.inside.first c.len-self-inside.result
    c.args.self.now c.self-2.inside.spans c.self-2.invariant
    (c.self-2.view_is ∙ c.loop-number.invariant ∙ whole_at (g.E.SectionEnds.ends c.args.ends.now) c.loop-number.number c.args.self.now all) c.len-self-inside.ensures
