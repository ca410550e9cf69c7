-- Both values are the number 0.
use Rattle.std.proofs.Common.{refl}
use Rattle.att_insns.proofs.reading.blank.Goals as goal

pub returns : goal.returns
returns c = record {
  name = refl;
  size = refl;
  «prefix» = refl;
  first = refl;
  second = refl;
  third = refl;
  address = refl;
  immediate = c.zero.ensures;
  displacement = c.zero-2.ensures;
}
