-- A copy more is passed, or none is to come.
use Rattle.std.proofs.Common.{◌≡◌, length, Option, sym, ap, subst, ◌∙◌, arith}
use Rattle.std.proofs.lemmas.Bool.{ltb-false}
use Rattle.macro_blocks.specs.declared.frames.Branch.{Branch}
use Rattle.macro_blocks.specs.Copies.{later_of, count_left}
use Rattle.macro_blocks.specs.Searches.{found_by}
use Rattle.macro_blocks.specs.Passing.{PassesWhole}
use Rattle.macro_blocks.proofs.CopyLemmas.{none_each}
use Rattle.macro_blocks.proofs.FoundCuts.{found_none}
use Rattle.macro_blocks.proofs.PassedTexts.{passed_here, both_same}
use Rattle.macro_blocks.proofs.frames.Frame.pass_each.Goals as goal

pub copies-preserved : goal.copies-preserved
copies-preserved g c =
    let f = c.args.self.now in
    let verdict = g.V.Verdicts.verdict c.args.verdicts.now in
    let before = c.copies.search in
    let after = c.pass_whole.new.search in
    let inv = c.copies.invariant in
    let next = c.next_text.new.self in
    let now = c.pass_whole.new.self in
    let P : Option Branch → Type 0 = λ branch. PassesWhole verdict before after next now branch in
    let passes = subst P c.in-None.is c.in_ok-branch.ensures.passes in
    let kept = c.in_ok-branch.ensures.same in
    let alike : now.alike ≡ 0 = kept.alike ∙ c.next_text.ensures.alike in
    let here = passed_here verdict before after next now passes kept in
    let fewer = ap count_left kept.each in
    record {
      passed = inv.passed ∙ ap (found_by verdict before) (sym c.in_ok-next_text.ensures.statements) ∙ here ∙ ap (λ n. found_by verdict after (later_of now.place now.text.value n now.each)) alike;
      same = both_same f c.copies.self now inv.same (both_same c.copies.self next now c.next_text.ensures.same kept.same);
      alike = alike;
      few = omega (arith, fewer, c.in_ok-next_text.ensures.copies, c.in_ok-branch.ensures.few, inv.few);
      block = c.in_ok-branch.ensures.block ∙ inv.block;
    }

pub returns-clause-ends : goal.returns-clause-ends
returns-clause-ends g c =
    let verdict = g.V.Verdicts.verdict c.args.verdicts.now in
    let now = c.copies.self in
    let past = ltb-false now.each.next (length now.each.line.values.items) (sym c.is_left.ensures ∙ c.copies-test.false) in
    c.copies.invariant.passed ∙ ap (found_by verdict c.copies.search) (none_each now.place now.each past) ∙ found_none verdict c.copies.search
