-- Where there are no places each head is 0.
use Rattle.std.proofs.Common.{arith}
use Rattle.asm_symbols.proofs.ChainLemmas.{AreChained-none}
use Rattle.asm_symbols.proofs.name_chains.NameChains.with_room.Goals as goal

pub invariant_of-result : goal.invariant_of-result
invariant_of-result c =
    let zeros = c.in_ok-vec.ensures.items_if_clones_equal (λ y is. is) in (
      rw (zeros, c.in_ok-with_capacity.ensures.items) (AreChained-none c.args.count),
      omega (arith, c.in_ok-vec.ensures.len, c.in_ok-with_capacity.ensures.exact),
    )
