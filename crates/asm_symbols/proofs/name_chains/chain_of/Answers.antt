-- A chain is one of so many.
use Rattle.std.proofs.Common.{refl}
use Rattle.asm_symbols.specs.NameChains.{chain_of}
use Rattle.asm_symbols.proofs.name_chains.chain_of.Goals as goal

pub returns-clause-value : goal.returns-clause-value
unfolding chain_of
returns-clause-value c = refl
