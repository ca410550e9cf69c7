-- What was made, and then what becomes of the rest.
use Rattle.std.proofs.Common.{◌≡◌, ◌≤◌, ◌-◌, ◌++◌, length, map, drop}
use Rattle.macro_texts.specs.Putting.{put}
use Rattle.macro_texts.specs.ArgumentsSeen.{argument_seen}
use Rattle.macro_texts.proofs.putting.put_in.Given as goal

abbrev pub invariant-loop-at : goal.invariant-loop-at
invariant-loop-at l = record {
  made : l.text.items ++ put (map argument_seen l.arguments) l.number (drop l.at l.body) ≡ put (map argument_seen l.arguments) l.number l.body;
  within : l.at ≤ length l.body;
}

abbrev pub decreases-loop-at : goal.decreases-loop-at
decreases-loop-at l = length l.body - l.at
