use Rattle.form_laws.proofs.Instructions.{values_there}
use Rattle.form_laws.proofs.forms.values_name_symbols.Goals as goal

pub returns : goal.returns
returns c = values_there (record { frames = c.frame_directives_keep_all_else.ensures; rows = c.line_directives_keep_all_else.ensures.rows; files = c.line_directives_keep_all_else.ensures.files })
