-- A copy more is passed, or the search ends in it; or it ends in none.
use Rattle.std.proofs.Common.{◌≡◌, ◌≤◌, List, ◌++◌, length, Some, sym, ap, subst, ◌∙◌, arith}
use Rattle.std.proofs.lemmas.List.{append-nil}
use Rattle.asm_lines.specs.NextStatements.{TokenStatement}
use Rattle.macro_blocks.specs.declared.searching.Sought.{Sought}
use Rattle.macro_blocks.specs.Blocks.{repeated}
use Rattle.macro_blocks.specs.Places.{left_in}
use Rattle.macro_blocks.specs.Copies.{each_of, later_of}
use Rattle.macro_blocks.specs.Searches.{found_by, PassesAll}
use Rattle.macro_blocks.specs.Frames.{level_of}
use Rattle.macro_blocks.specs.Passing.{PassesText}
use Rattle.macro_blocks.proofs.CopyLemmas.{none_each}
use Rattle.macro_blocks.proofs.FoundCuts.{copies_left_of, copy_more, copies_stay_open, found_none}
use Rattle.macro_blocks.proofs.PassedTexts.{left_again, later_again, ends_behind, both_same}
use Rattle.macro_blocks.proofs.frames.Frame.pass_alike.Goals as goal

pub returns-in-Stopped-clause-ends : goal.returns-in-Stopped-clause-ends
returns-in-Stopped-clause-ends g c =
    let f = c.args.self.now in
    let verdict = g.V.Verdicts.verdict c.args.verdicts.now in
    let before = c.copies.search in
    let after = c.pass_text.new.search in
    let now = c.copies.self in
    let inv = c.copies.invariant in
    let copy = left_in f.place f.text.value 0 in
    let P : Sought → Type 0 = λ sought. PassesText verdict c.args.start before after c.restart.new.self c.pass_text.new.self sought in
    let left = copies_left_of verdict copy c.args.search.now before f.alike now.alike (each_of f.place f.each) inv.passed in
    let again = sym (later_again f now now.alike inv.same inv.text inv.each) ∙ sym c.restart.ensures.statements in
    ends_behind verdict c.args.search.now before after (later_of f.place f.text.value f.alike f.each) (level_of c.restart.new.self).statements (level_of c.pass_text.new.self).statements (Some _)
    (left ∙ ap (found_by verdict before) again) inv.block (subst P c.in-Stopped.is c.in_ok-stop.ensures.passes)

pub returns-in-Limit-clause-ends : goal.returns-in-Limit-clause-ends
returns-in-Limit-clause-ends g c =
    let f = c.args.self.now in
    let verdict = g.V.Verdicts.verdict c.args.verdicts.now in
    let before = c.copies.search in
    let after = c.pass_text.new.search in
    let inv = c.copies.invariant in
    let r = c.restart.new.self in
    let copy = left_in f.place f.text.value 0 in
    let back = left_in f.place f.text.value c.args.start in
    let P : Sought → Type 0 = λ sought. PassesText verdict c.args.start before after r c.pass_text.new.self sought in
    let passes = subst P c.in-Limit.is c.in_ok-stop.ensures.passes in
    let same = both_same f c.copies.self r inv.same c.restart.ensures.same in
    let text = c.restart.ensures.text ∙ inv.text in
    let first : copy ≡ left_in r.place r.text.value r.at = sym (ap (left_in r.place r.text.value) c.restart.ensures.at ∙ left_again f r 0 same text) in
    let cut : copy ≡ passes.front ++ back = first ∙ passes.cut ∙ ap (λ l. passes.front ++ l) (left_again f r c.args.start same text) in
    let alone = f.alone c.requires.some in
    let past : length f.each.line.values.items ≤ f.each.next = omega (arith, alone) in
    let nothing = none_each f.place f.each past in
    let open_copies = copies_stay_open verdict c.requires.begun.first c.args.search.now before after copy passes.front back f.alike c.copies.self.alike c.requires.begun.none_open c.requires.begun.passed inv.passed cut passes.passed f.alike in
    ap (λ (l : List TokenStatement). found_by verdict c.args.search.now (repeated f.alike copy ++ l)) nothing ∙ ap (found_by verdict c.args.search.now) (append-nil (repeated f.alike copy)) ∙ open_copies

pub copies-preserved : goal.copies-preserved
copies-preserved g c =
    let f = c.args.self.now in
    let verdict = g.V.Verdicts.verdict c.args.verdicts.now in
    let before = c.copies.search in
    let after = c.pass_text.new.search in
    let inv = c.copies.invariant in
    let r = c.restart.new.self in
    let now = c.pass_text.new.self in
    let copy = left_in f.place f.text.value 0 in
    let P : Sought → Type 0 = λ sought. PassesText verdict c.args.start before after r now sought in
    let passes = subst P c.in-End.is c.in_ok-stop.ensures.passes in
    let kept = c.in_ok-stop.ensures.same in
    let same = both_same f c.copies.self r inv.same c.restart.ensures.same in
    let text = c.restart.ensures.text ∙ inv.text in
    let first : left_in r.place r.text.value r.at ≡ copy = ap (left_in r.place r.text.value) c.restart.ensures.at ∙ left_again f r 0 same text in
    let A : List TokenStatement → Type 0 = λ these. PassesAll verdict before after these in
    record {
      passed = copy_more verdict copy c.args.search.now before after f.alike c.copies.self.alike now.alike inv.passed (omega (arith, kept.alike, c.restart.ensures.alike)) (subst A first passes);
      same = both_same f r now same kept.same;
      text = kept.text ∙ text;
      each = kept.each ∙ c.restart.ensures.each ∙ inv.each;
      few = omega (arith, kept.alike, c.restart.ensures.alike, c.in_ok-stop.ensures.few, inv.few);
      block = c.in_ok-stop.ensures.block ∙ inv.block;
    }

pub returns-clause-ends : goal.returns-clause-ends
returns-clause-ends g c =
    let f = c.args.self.now in
    let verdict = g.V.Verdicts.verdict c.args.verdicts.now in
    let before = c.copies.search in
    let inv = c.copies.invariant in
    let copy = left_in f.place f.text.value 0 in
    let alone = f.alone c.requires.some in
    let past : length f.each.line.values.items ≤ f.each.next = omega (arith, alone) in
    let none : c.copies.self.alike ≡ 0 = omega arith in
    let left = copies_left_of verdict copy c.args.search.now before f.alike c.copies.self.alike (each_of f.place f.each) inv.passed in
    left ∙ ap (λ n. found_by verdict before (repeated n copy ++ each_of f.place f.each)) none ∙ ap (found_by verdict before) (none_each f.place f.each past) ∙ found_none verdict before
