use Rattle.asm_place.proofs.CodeLaws.{insn_there}
use Rattle.asm_place.proofs.laws.encoding_items.Goals as goal

pub returns : goal.returns
returns c = insn_there (record { frames = c.frame_directives_keep_all_else.ensures; rows = c.line_directives_keep_all_else.ensures.rows; files = c.line_directives_keep_all_else.ensures.files }) c.puts_stay_within.ensures c.fields_stand_apart.ensures.places
