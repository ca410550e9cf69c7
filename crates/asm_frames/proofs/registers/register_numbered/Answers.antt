-- The register that was found is that of the number.
use Rattle.asm_frames.proofs.RegisterLemmas.{numbered_so}
use Rattle.asm_frames.proofs.registers.register_numbered.Goals as goal

pub returns : goal.returns
returns c = numbered_so _ _ c.new.ensures.within c.new.ensures.number
