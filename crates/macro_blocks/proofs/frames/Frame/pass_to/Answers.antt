-- The text is passed, and what is to come is searched.
use Rattle.std.proofs.Common.{List, Option, sym, subst}
use Rattle.asm_lines.specs.NextStatements.{TokenStatement}
use Rattle.macro_blocks.specs.declared.frames.Branch.{Branch}
use Rattle.macro_blocks.specs.Copies.{later_of}
use Rattle.macro_blocks.specs.Searches.{PassesAll}
use Rattle.macro_blocks.specs.Frames.{level_of}
use Rattle.macro_blocks.specs.Passing.{PassesWhole}
use Rattle.macro_blocks.proofs.PassedTexts.{left_again, passed_here, ends_behind_ok}
use Rattle.macro_blocks.proofs.frames.Frame.pass_to.Goals as goal

pub pass_later-requires-clause-begun : goal.pass_later-requires-clause-begun
pass_later-requires-clause-begun g c =
    let f = c.args.self.now in
    let now = c.pass_whole.new.self in
    let verdict = g.V.Verdicts.verdict c.args.verdicts.now in
    let before = c.args.search.now in
    let after = c.pass_whole.new.search in
    let P : Option Branch → Type 0 = λ branch. PassesWhole verdict before after f now branch in
    let A : List TokenStatement → Type 0 = λ these. PassesAll verdict before after these in
    let same = c.in_ok-branch.ensures.same in
    record { first = before; none_open = c.requires; passed = subst A (sym (left_again f now f.at same.same same.text)) (subst P c.in-None.is c.in_ok-branch.ensures.passes) }

pub returns-in-None-clause-ends : goal.returns-in-None-clause-ends
returns-in-None-clause-ends g c =
    let f = c.args.self.now in
    let now = c.pass_whole.new.self in
    let verdict = g.V.Verdicts.verdict c.args.verdicts.now in
    let before = c.args.search.now in
    let after = c.pass_whole.new.search in
    let P : Option Branch → Type 0 = λ branch. PassesWhole verdict before after f now branch in
    let here = passed_here verdict before after f now (subst P c.in-None.is c.in_ok-branch.ensures.passes) c.in_ok-branch.ensures.same in
    ends_behind_ok c.pass_later.result verdict before after c.pass_later.new.search (level_of f).statements (later_of now.place now.text.value now.alike now.each) (level_of c.pass_later.new.self).statements here c.in_ok-branch.ensures.block c.pass_later.ensures.ends
