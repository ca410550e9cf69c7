use Rattle.form_laws.proofs.Small.{begin_fitting, stay_fitting}
use Rattle.form_laws.proofs.numbers.numbers_fit.Goals as goal

pub returns-clause-begins : goal.returns-clause-begins
returns-clause-begins c = begin_fitting

pub returns-clause-stays : goal.returns-clause-stays
returns-clause-stays c = stay_fitting c.read_is_written.ensures (record { frames = c.frame_directives_keep_all_else.ensures; rows = c.line_directives_keep_all_else.ensures.rows; files = c.line_directives_keep_all_else.ensures.files })
