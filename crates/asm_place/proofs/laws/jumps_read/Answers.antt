use Rattle.asm_place.proofs.JumpLaws.{written_reads}
use Rattle.asm_place.proofs.laws.jumps_read.Goals as goal

pub returns : goal.returns
returns c = written_reads c.jump_codes_read.ensures c.conditions_are_numbered.ensures
