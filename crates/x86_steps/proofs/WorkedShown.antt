-- The worked addresses and numbers, computed.
use Rattle.std.proofs.Common.{refl}
use Rattle.x86_steps.specs.Memory.{byte_at, word_at}
use Rattle.x86_steps.specs.WorkedOperands.{WorkedOperands}

pub operands : WorkedOperands
unfolding byte_at word_at
operands = record {
  based = refl;
  below = refl;
  indexed = refl;
  alone = refl;
  open_number = refl;
  from_rip = refl;
  in_segment = refl;
  offset = refl;
  word = refl;
  around = refl;
  missing = refl;
}
