use Rattle.std.proofs.Common.{◌≡◌, length}
use Rattle.function_rows.proofs.PlaceLemmas.{StandInRow}
use Rattle.function_rows.proofs.making.placed.Given as goal

abbrev pub invariant-loop-at : goal.invariant-loop-at
invariant-loop-at l = record {
  long : length l.made.items ≡ l.at;
  row : StandInRow l.made.items;
}
