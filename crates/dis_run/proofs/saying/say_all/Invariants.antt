-- The bytes before the place are said, and no call failed.
use Rattle.std.proofs.Common.{◌≡◌, ◌-◌, ◌≤◌, length, take}
use Rattle.std.specs.Option.{option_map}
use Rattle.asm_base.specs.Console.{after_say}
use Rattle.dis_run.proofs.saying.say_all.Given as goal

abbrev pub invariant-pieces : goal.invariant-pieces
invariant-pieces g l = record {
  within : l.at ≤ length l.text;
  said : g.C.Console.said l.con ≡ option_map (after_say l.to (take l.at l.text)) (g.C.Console.said l.fn.con);
  faults : g.C.Console.faults l.con ≡ g.C.Console.faults l.fn.con;
}

abbrev pub decreases-pieces : goal.decreases-pieces
decreases-pieces g l = length l.text - l.at
