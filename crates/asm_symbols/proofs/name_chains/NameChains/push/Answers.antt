-- The place is the last of its chain.
use Rattle.std.proofs.Common.{◌≡◌, ◌+◌, ◌-◌, ◌^◌, ◌<◌, suc, length, Some, refl, arith, slice_get}
use Rattle.std.proofs.lemmas.Option.{slice_get_read}
use Rattle.std.proofs.lemmas.List.{length-map}
use Rattle.asm_symbols.specs.NameChains.{hashes_of}
use Rattle.asm_symbols.proofs.ChainLemmas.{AreChained-push, length-set}
use Rattle.asm_symbols.proofs.name_chains.NameChains.push.Goals as goal

pub invariant_of-self : goal.invariant_of-self
invariant_of-self c =
    let heads = c.self.inside.heads.items in
    let links = c.self.inside.links.items in
    let some : 0 < length heads - length links = rw (← c.self.view_is) at c.requires.room in
    let long : length (hashes_of links) ≡ length links = simp length-map in
    let few : length (hashes_of links) + 1 < 2 ^ 32 = rw (← c.self.view_is) at c.requires.few in
    let here : slice_get heads c.chain_of-at.result ≡ Some c.index-before.result.now =
    slice_get_read heads (length heads) c.chain_of-at.result c.index-before.result.now refl (omega (arith, c.chain_of-at.ensures.within, c.len.ensures)) c.index-before.ensures in
    let number : c.len-2.result ≡ suc (length links) = omega (arith, c.len-2.ensures, c.push_reserved.ensures.len) in
    let count : c.len.result ≡ length heads = omega (arith, c.len.ensures) in
    let chain = c.chain_of-at.ensures.value in (
      rw (number, c.push_reserved.ensures.items)
          (rw (chain, count) (AreChained-push heads links c.self.invariant.0 (record { hash = c.args.hash; before = c.index-before.result.now }) (omega arith) (omega arith) (rw (chain, count) at here))),
      omega (arith, length-set heads c.chain_of-at.result c.len-2.result, c.self.invariant.1, c.push_reserved.ensures.capacity),
    )
