-- The text of the next copy.
use Rattle.std.proofs.Common.{List, ℕ, sym, subst, ◌∙◌}
use Rattle.macro_blocks.specs.Copies.{IsNextText}
use Rattle.macro_blocks.specs.Frames.{level_of}
use Rattle.macro_blocks.proofs.CopyLemmas.{first_line}
use Rattle.macro_blocks.proofs.Heads.{next_statements}
use Rattle.macro_blocks.proofs.frames.Frame.next_text.Goals as goal

pub invariant_of-self-clause-line_there : goal.invariant_of-self-clause-line_there
invariant_of-self-clause-line_there c = first_line c.in_ok-text.text.value

pub invariant_of-self-clause-whole : goal.invariant_of-self-clause-whole
invariant_of-self-clause-whole c =
    let Next : List ℕ → Type 0 = λ text. IsNextText c.args.self.now.each text in
    let is = subst Next (sym (c.in_ok-text.ensures.ok ∙ c.new-made.ensures)) c.in_ok-bytes.ensures in
    is.whole

pub returns-clause-statements : goal.returns-clause-statements
unfolding level_of
returns-clause-statements c =
    let f = c.args.self.now in
    let Next : List ℕ → Type 0 = λ text. IsNextText f.each text in
    let is = subst Next (sym (c.in_ok-text.ensures.ok ∙ c.new-made.ensures)) c.in_ok-bytes.ensures in
    next_statements f.place c.in_ok-text.text.value f.alike f.each c.pass.new.self c.requires.alike is c.pass.ensures.next c.pass.ensures.body c.pass.ensures.line c.pass.ensures.number
