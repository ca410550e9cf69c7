-- What is to come is left.
use Rattle.macro_blocks.proofs.Heads.{goes_next}
use Rattle.macro_blocks.proofs.frames.Frame.begin_copy.Goals as goal

pub returns-clause-level : goal.returns-clause-level
returns-clause-level c =
    goes_next c.args.self.now c.next_text.new.self c.requires.statements c.requires.alike c.in_ok-next_text.ensures.statements c.next_text.ensures.same
