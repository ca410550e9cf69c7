use Rattle.form_laws.proofs.Below.{begin_there, stay_there}
use Rattle.form_laws.proofs.forms.forms_name_symbols.Goals as goal

pub returns-clause-begins : goal.returns-clause-begins
returns-clause-begins c = begin_there

pub returns-clause-stays : goal.returns-clause-stays
returns-clause-stays c = stay_there (record { frames = c.frame_directives_keep_all_else.ensures; rows = c.line_directives_keep_all_else.ensures.rows; files = c.line_directives_keep_all_else.ensures.files })
