-- The lines up to here are written, and no call failed.
use Rattle.std.proofs.Common.{◌≡◌, ◌-◌, ◌≤◌, length}
use Rattle.dis_run.specs.Saying.{SaysLines}
use Rattle.dis_run.proofs.listing.say_listing.Given as goal

abbrev pub invariant-pieces : goal.invariant-pieces
invariant-pieces g l = record {
  said : SaysLines g.T.Texts.text l.bytes 0 l.at (g.C.Console.said l.fn.con) (g.C.Console.said l.con);
  within : l.at ≤ length l.bytes;
  faults : g.C.Console.faults l.con ≡ g.C.Console.faults l.fn.con;
}

abbrev pub decreases-pieces : goal.decreases-pieces
decreases-pieces g l = length l.bytes - l.at
