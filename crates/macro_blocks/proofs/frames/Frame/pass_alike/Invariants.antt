-- The copies so far are passed.
use Rattle.std.proofs.Common.{◌≡◌, ◌+◌, ◌*◌, ◌^◌, ◌<◌}
use Rattle.macro_blocks.specs.Places.{left_in}
use Rattle.macro_blocks.specs.Frames.{IsSamePart}
use Rattle.macro_blocks.proofs.FoundCuts.{CopiesPassed}
use Rattle.macro_blocks.proofs.frames.Frame.pass_alike.Given as goal

abbrev pub invariant-copies : goal.invariant-copies
invariant-copies g l = record {
  passed : CopiesPassed (g.V.Verdicts.verdict l.verdicts) (left_in l.fn.self.place l.fn.self.text.value 0) l.fn.search l.search l.fn.self.alike l.self.alike;
  same : IsSamePart l.fn.self l.self;
  text : l.self.text.value ≡ l.fn.self.text.value;
  each : l.self.each ≡ l.fn.self.each;
  few : l.search.deep + l.self.alike * 2 ^ 64 < 2 ^ 128;
  block : l.search.block ≡ l.fn.search.block;
}

abbrev pub decreases-copies : goal.decreases-copies
decreases-copies g l = l.self.alike
