use Rattle.asm_place.proofs.InstructionLaws.{instruction_put}
use Rattle.asm_place.proofs.laws.instruction_stands.Goals as goal

pub returns : goal.returns
returns c = instruction_put c.bare_codes_read.ensures.stand
