-- What is pushed, and the room for what is left.
use Rattle.std.proofs.Common.{◌≡◌, ◌+◌, ◌*◌, ◌≤◌, ◌++◌, flat_map, length, drop}
use Rattle.arrayvec.specs.ArrayVec.{array_vec_len}
use Rattle.listings.specs.LineTexts.{spaced_byte}
use Rattle.listings.proofs.heads.push_bytes.Given as goal

abbrev pub invariant-loop-byte : goal.invariant-loop-byte
invariant-loop-byte l = record {
  items : l.head.items ++ flat_map spaced_byte (drop l.byte-index l.bytes) ≡ l.fn.head.items ++ flat_map spaced_byte l.fn.bytes;
  room : array_vec_len l.head + 3 * length (drop l.byte-index l.bytes) ≡ array_vec_len l.fn.head + 3 * length l.fn.bytes;
}
