use Rattle.std.proofs.Common.{◌≡◌, ◌+◌, ◌++◌, take}
use Rattle.arrayvec.specs.ArrayVec.{array_vec_len}
use Rattle.x86_table.proofs.spelling.push_eight.Given as goal

-- so many of the bytes are there
abbrev pub invariant-loop-b : goal.invariant-loop-b
invariant-loop-b l = record {
  bytes : l.out.items ≡ l.fn.out.items ++ take l.b-index l.b-items;
  len : array_vec_len l.out ≡ array_vec_len l.fn.out + l.b-index;
}
