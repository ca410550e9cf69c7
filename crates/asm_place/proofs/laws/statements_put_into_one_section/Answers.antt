use Rattle.asm_place.proofs.KeptSections.{section_kept}
use Rattle.asm_place.proofs.laws.statements_put_into_one_section.Goals as goal

pub returns : goal.returns
returns c = section_kept (record { frames = c.frame_directives_keep_all_else.ensures; rows = c.line_directives_keep_all_else.ensures.rows; files = c.line_directives_keep_all_else.ensures.files })
