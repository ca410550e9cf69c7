-- All that is left of the text is passed where its end is reached.
use Rattle.std.proofs.Common.{◌≡◌, length, ap, subst, ◌∙◌}
use Rattle.macro_blocks.specs.declared.searching.Sought.{Sought}
use Rattle.macro_blocks.specs.Passing.{PassesText}
use Rattle.macro_blocks.proofs.PassedTexts.{passes_to_end}
use Rattle.macro_blocks.proofs.frames.Frame.pass_whole.Goals as goal

pub returns-in-Limit-clause-passes : goal.returns-in-Limit-clause-passes
returns-in-Limit-clause-passes g c =
    let f = c.args.self.now in
    let verdict = g.V.Verdicts.verdict c.args.verdicts.now in
    let until = length c.as_bytes-until.result.now in
    let P : Sought → Type 0 = λ sought. PassesText verdict until c.args.search.now c.pass_text.new.search f c.pass_text.new.self sought in
    let end : until ≡ length f.text.value = ap length (c.as_bytes-until.ensures ∙ c.deref.ensures) in
    passes_to_end verdict f.place f.text.value f.at until c.args.search.now c.pass_text.new.search end (subst P c.in-Limit.is c.in_ok-stop.ensures.passes)
