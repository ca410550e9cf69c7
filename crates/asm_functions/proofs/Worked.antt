-- The steps that were worked out by hand come out so.
use Rattle.std.proofs.Common.{refl}
use Rattle.asm_functions.specs.Worked.{WorkedSteps}

pub worked : WorkedSteps
worked = record {
  said = refl;
  object = refl;
  silent = refl;
  byte = refl;
  empty = refl;
  bare = refl;
  elsewhere = refl;
  comment = refl;
  padding = refl;
  filled = refl;
  whole = refl;
  in_data = refl;
  call = refl;
  branch = refl;
  jump = refl;
  indirect = refl;
  plain = refl;
  first = refl;
  noted = refl;
  quiet = refl;
  unmarked = refl;
}
