use Rattle.asm_place.proofs.InstructionLaws.{instruction_there}
use Rattle.asm_place.proofs.laws.instruction_items.Goals as goal

pub returns : goal.returns
returns c = instruction_there (record { frames = c.frame_directives_keep_all_else.ensures; rows = c.line_directives_keep_all_else.ensures.rows; files = c.line_directives_keep_all_else.ensures.files }) c.puts_stay_within.ensures c.bare_codes_read.ensures.stand
