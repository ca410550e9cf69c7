-- The statements between are passed.
use Rattle.std.proofs.Common.{◌≡◌, ◌+◌, ◌*◌, ◌-◌, ◌≤◌, true, length}
use Rattle.asm_lines.specs.LineNumbers.{line_of}
use Rattle.macro_blocks.specs.Places.{is_whole}
use Rattle.macro_blocks.specs.Searches.{PassesUpTo}
use Rattle.macro_blocks.proofs.searching.Search.seek.Given as goal

abbrev pub invariant-loop-at : goal.invariant-loop-at
invariant-loop-at g l = record {
  passed : PassesUpTo (g.V.Verdicts.verdict l.verdicts) l.place l.source l.from l.at l.fn.self l.self;
  line : l.line ≡ line_of l.source l.at;
  within : l.at ≤ length l.source;
  whole : is_whole l.source l.at ≡ true;
  few : l.self.deep + l.from ≤ l.fn.self.deep + l.at;
  behind : l.from ≤ l.at;
  looks : 3 * l.from + l.steps ≤ l.fn.steps + 3 * l.at;
  block : l.self.block ≡ l.fn.self.block;
}

abbrev pub decreases-loop-at : goal.decreases-loop-at
decreases-loop-at g l = length l.source - l.at
