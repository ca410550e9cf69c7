use Rattle.code_laws.proofs.Seeing.{bare_instructions_are_seen}
use Rattle.code_laws.proofs.instructions.bare_instructions_are_seen.Goals as goal

pub returns : goal.returns
returns c = bare_instructions_are_seen c.bare_codes_read.ensures.alone
