-- What the loop over the bytes of a string keeps.
use Rattle.std.proofs.Common.{◌≡◌, ◌+◌, false, drop}
use Rattle.asm_base.specs.Dividing.{quoted_length}
use Rattle.asm_base.proofs.pieces.quoted_length.Given as goal

abbrev pub invariant-loop-i : goal.invariant-loop-i
invariant-loop-i l = l.i + quoted_length l.escaped (drop l.i l.bytes) ≡ quoted_length false l.bytes
