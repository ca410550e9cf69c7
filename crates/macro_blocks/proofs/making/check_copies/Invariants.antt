-- The copies for the values so far are made.
use Rattle.std.proofs.Common.{take}
use Rattle.macro_texts.specs.RepeatsSeen.{texts}
use Rattle.macro_blocks.specs.Making.{AreMade}
use Rattle.macro_blocks.proofs.making.check_copies.Given as goal

abbrev pub invariant-loop-value : goal.invariant-loop-value
invariant-loop-value l = AreMade l.line.name.items l.number l.body (texts (take l.value-index l.line.values.items))
