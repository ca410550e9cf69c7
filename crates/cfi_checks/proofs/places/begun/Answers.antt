use Rattle.std.proofs.Common.{arith}
use Rattle.cfi_checks.specs.Places.{no_row}
use Rattle.cfi_checks.proofs.places.begun.Goals as goal

pub returns-then-rows-k : goal.returns-then-rows-k
returns-then-rows-k c = record {
  within = let t = c.loop-k-test.true in omega arith;
  begun = c.loop-k.invariant;
  later = λ m l h.
      let o = c.requires.order c.loop-k.k m no_row l h in
      let t = c.if-rows-k.true in
      omega arith;
}
