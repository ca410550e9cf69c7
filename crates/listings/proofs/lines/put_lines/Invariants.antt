-- The text has grown by the lines up to here.
use Rattle.std.proofs.Common.{◌<◌, ◌≤◌, ◌-◌, length}
use Rattle.listings.specs.Listings.{Adds}
use Rattle.listings.proofs.lines.put_lines.Given as goal

abbrev pub invariant-lines : goal.invariant-lines
invariant-lines g l = record {
  added : Adds g.T.Texts.text l.bytes l.at l.end l.fn.text.items l.text.items;
  progress : l.at < l.end;
  within : l.end ≤ length l.bytes;
}

abbrev pub decreases-lines : goal.decreases-lines
decreases-lines g l = length l.bytes - l.end
