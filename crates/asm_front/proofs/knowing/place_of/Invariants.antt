-- The names before the place are others.
use Rattle.std.proofs.Common.{◌≡◌, ◌+◌, drop}
use Rattle.std.specs.List.{position_or_len}
use Rattle.asm_front.specs.Knowing.{same_written}
use Rattle.asm_front.proofs.knowing.place_of.Given as goal

abbrev pub invariant-loop-at : goal.invariant-loop-at
invariant-loop-at l = position_or_len (same_written l.name) l.written ≡ l.at + position_or_len (same_written l.name) (drop l.at l.written)
