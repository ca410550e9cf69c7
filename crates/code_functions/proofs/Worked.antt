-- Functions that were worked out by hand.
use Rattle.std.proofs.Common.{refl}
use Rattle.code_functions.specs.Worked.{WorkedFunctions}

pub worked : WorkedFunctions
worked = record {
  sized = refl;
  empty = refl;
  split = refl;
  unsplit = refl;
  sized_before = refl;
  data_elsewhere = refl;
  overlapping = refl;
  one_sized = refl;
  said = refl;
  again = refl;
  another = refl;
}
