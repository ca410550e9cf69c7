use Rattle.asm_place.proofs.LoneMnemonics.{lone_is_read, insn_is_seen}
use Rattle.asm_place.proofs.laws.instructions_are_seen.Goals as goal

pub returns-clause-alone : goal.returns-clause-alone
returns-clause-alone c = lone_is_read c.bare_codes_read.ensures.alone

pub returns-clause-placed : goal.returns-clause-placed
returns-clause-placed c = insn_is_seen c.bare_codes_read.ensures.alone
