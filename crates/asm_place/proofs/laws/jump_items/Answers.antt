use Rattle.asm_place.proofs.JumpLaws.{jump_there}
use Rattle.asm_place.proofs.laws.jump_items.Goals as goal

pub returns : goal.returns
returns c = jump_there (record { frames = c.frame_directives_keep_all_else.ensures; rows = c.line_directives_keep_all_else.ensures.rows; files = c.line_directives_keep_all_else.ensures.files }) c.puts_stay_within.ensures
