-- What the loop over the bytes of a comment keeps.
use Rattle.std.proofs.Common.{◌≡◌, ◌+◌, drop}
use Rattle.asm_base.specs.Dividing.{comment_length}
use Rattle.asm_base.proofs.pieces.comment_length.Given as goal

abbrev pub invariant-loop-i : goal.invariant-loop-i
invariant-loop-i l = l.i + comment_length (drop l.i l.bytes) ≡ comment_length l.bytes
