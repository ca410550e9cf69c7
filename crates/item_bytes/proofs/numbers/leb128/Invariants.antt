-- What is pushed and what is left make the number.
use Rattle.std.proofs.Common.{◌≡◌, ◌+◌, ◌-◌, ◌++◌, suc}
use Rattle.arrayvec.specs.ArrayVec.{array_vec_len}
use Rattle.item_bytes.specs.Leb128.{leb128_bytes}
use Rattle.item_bytes.proofs.numbers.leb128.Given as goal

abbrev pub invariant-loop : goal.invariant-loop
invariant-loop l = record {
  pushed : array_vec_len l.bytes + 1 ≡ l.counter;
  left : l.bytes.items ++ leb128_bytes l.signed l.above (suc (l.groups - l.counter)) ≡ leb128_bytes l.signed l.value l.groups;
}
