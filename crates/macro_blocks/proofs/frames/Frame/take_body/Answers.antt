-- What is found is the end of the block, and its text is kept.
use Rattle.std.proofs.Common.{Option, subst}
use Rattle.macro_blocks.specs.declared.frames.Branch.{Branch}
use Rattle.macro_blocks.specs.Frames.{level_of}
use Rattle.macro_blocks.specs.Passing.{EndsIn}
use Rattle.macro_blocks.proofs.Ends.{no_branch, takes_body, no_block}
use Rattle.macro_blocks.proofs.frames.Frame.take_body.Goals as goal

pub returns-in-Some : goal.returns-in-Some
returns-in-Some c =
    let first = c.in_ok-search.search in
    let is = c.in_ok-search.ensures in
    let E : Option Branch → Type 0 = λ branch. EndsIn no_branch first c.pass_to.new.search (level_of c.args.self.now).statements (level_of c.pass_to.new.self).statements branch in
    takes_body first c.pass_to.new.search c.args.block c.args.self.now c.pass_to.new.self c.in-Some.field-0 is.block is.keeps is.deep is.text (subst E c.in-Some.is c.in_ok-pass_to.ensures.ends) c.in_ok-pass_to.ensures.same

pub returns-in-None : goal.returns-in-None
returns-in-None c =
    let first = c.in_ok-search.search in
    let is = c.in_ok-search.ensures in
    let E : Option Branch → Type 0 = λ branch. EndsIn no_branch first c.pass_to.new.search (level_of c.args.self.now).statements (level_of c.pass_to.new.self).statements branch in
    no_block first c.args.block _ (level_of c.args.self.now).statements is.block is.keeps is.deep is.text (subst E c.in-None.is c.in_ok-pass_to.ensures.ends)
