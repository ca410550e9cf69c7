-- The text from its beginning on.
use Rattle.std.proofs.Common.{refl}
use Rattle.macro_blocks.specs.Frames.{level_of}
use Rattle.macro_blocks.proofs.CopyLemmas.{first_line}
use Rattle.macro_blocks.proofs.Heads.{levels_same}
use Rattle.macro_blocks.proofs.frames.Frame.made.Goals as goal

pub invariant_of-result-clause-line_there : goal.invariant_of-result-clause-line_there
invariant_of-result-clause-line_there c = first_line c.args.text.value

pub returns : goal.returns
unfolding level_of
returns c = levels_same _ _ _ _ _ _ _ _ refl refl c.new.ensures.items refl
