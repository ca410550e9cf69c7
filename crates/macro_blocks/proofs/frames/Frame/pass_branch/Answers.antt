-- What is found is the end of the branch.
use Rattle.macro_blocks.proofs.Ends.{ends_branch_so}
use Rattle.macro_blocks.proofs.frames.Frame.pass_branch.Goals as goal

pub returns : goal.returns
returns g c =
    let is = c.new-search.ensures in
    ends_branch_so (g.E.KnowingPlacer.told c.args.known.now) c.new-search.result c.pass_to.new.search c.args.self.now c.pass_to.new.self c.in_ok-found.found is.block is.keeps is.deep is.text c.in_ok-found.ensures.ends c.in_ok-found.ensures.same
