-- The copies so far are passed.
use Rattle.std.proofs.Common.{◌≡◌, ◌+◌, ◌*◌, ◌^◌, ◌<◌}
use Rattle.macro_blocks.specs.Copies.{each_of, count_left}
use Rattle.macro_blocks.specs.Searches.{found_by}
use Rattle.macro_blocks.specs.Frames.{IsSamePart}
use Rattle.macro_blocks.proofs.frames.Frame.pass_each.Given as goal

abbrev pub invariant-copies : goal.invariant-copies
invariant-copies g l = record {
  passed : found_by (g.V.Verdicts.verdict l.verdicts) l.fn.search (each_of l.fn.self.place l.fn.self.each) ≡ found_by (g.V.Verdicts.verdict l.verdicts) l.search (each_of l.self.place l.self.each);
  same : IsSamePart l.fn.self l.self;
  alike : l.self.alike ≡ 0;
  few : l.search.deep + count_left l.self.each * 2 ^ 64 < 2 ^ 128;
  block : l.search.block ≡ l.fn.search.block;
}

abbrev pub decreases-copies : goal.decreases-copies
decreases-copies g l = count_left l.self.each
