-- The hashes of the places so far stand in the chains that are made, and there is room for the others.
use Rattle.std.proofs.Common.{◌≡◌, ◌+◌, take}
use Rattle.asm_symbols.specs.NameChains.{hashes_of}
use Rattle.asm_symbols.proofs.name_chains.NameChains.grow.Given as goal

abbrev pub invariant-loop-link : goal.invariant-loop-link
invariant-loop-link l = (l.grown.hashes ≡ hashes_of (take l.link-index l.link-items)) × (l.grown.room + l.link-index ≡ l.count)
