use Rattle.asm_place.proofs.PlacingLaws.{all_follow}
use Rattle.asm_place.proofs.laws.lines_follow.Goals as goal

pub returns : goal.returns
returns c = all_follow (record { frames = c.frame_directives_keep_all_else.ensures; rows = c.line_directives_keep_all_else.ensures.rows; files = c.line_directives_keep_all_else.ensures.files })
