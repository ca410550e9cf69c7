use Rattle.asm_place.proofs.PlacingLaws.{all_grow}
use Rattle.asm_place.proofs.laws.placing_grows.Goals as goal

pub returns : goal.returns
returns c = all_grow (record { frames = c.frame_directives_keep_all_else.ensures; rows = c.line_directives_keep_all_else.ensures.rows; files = c.line_directives_keep_all_else.ensures.files })
