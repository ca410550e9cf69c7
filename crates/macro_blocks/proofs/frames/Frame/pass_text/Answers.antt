-- The search ends in the text.
use Rattle.std.proofs.Common.{◌≡◌, ℕ, List, refl, subst, ◌∙◌}
use Rattle.macro_blocks.specs.declared.searching.Sought.{Sought}
use Rattle.macro_blocks.specs.Searches.{StopsIn, Seeks}
use Rattle.macro_blocks.proofs.PassedTexts.{stops_level}
use Rattle.macro_blocks.proofs.frames.Frame.pass_text.Goals as goal

pub returns-in-Stopped-clause-passes : goal.returns-in-Stopped-clause-passes
returns-in-Stopped-clause-passes g c =
    let f = c.args.self.now in
    let verdict = g.V.Verdicts.verdict c.args.verdicts.now in
    let S : Sought → Type 0 = λ sought. Seeks verdict f.place c.as_bytes.result.now f.at c.args.until c.args.search.now c.seek_alone.new.self sought in
    let T : List ℕ → Type 0 = λ text. StopsIn verdict f.place text f.at c.args.search.now c.seek_alone.new.self c.in-Stopped.stop in
    let text : c.as_bytes.result.now ≡ f.text.value = c.as_bytes.ensures ∙ c.deref.ensures in
    stops_level verdict c.args.search.now c.seek_alone.new.self f _ c.in-Stopped.stop (subst T text (subst S c.in-Stopped.is c.in_ok-sought.ensures.seeks))
    (record { same = record { place = refl; ends = refl; opened = refl; number = refl }; text = refl; alike = refl; each = refl }) refl
