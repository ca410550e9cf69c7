-- The frames so far are those of the first functions.
use Rattle.std.proofs.Common.{take}
use Rattle.std.specs.List.{AllZip}
use Rattle.source_ends.specs.Synthesis.{IsFrameOf}
use Rattle.source_ends.proofs.synthesizing.frames_of.Given as goal

abbrev pub invariant-loop-number : goal.invariant-loop-number
invariant-loop-number l = AllZip (IsFrameOf l.source.symbols.now l.source.sections.now) (take l.number l.functions) l.frames
