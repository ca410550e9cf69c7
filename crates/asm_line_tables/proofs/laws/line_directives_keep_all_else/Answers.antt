-- The clauses are lemmas on the definitions.
use Rattle.asm_line_tables.proofs.KeepLemmas.{only_loc, only_file}
use Rattle.asm_line_tables.proofs.laws.line_directives_keep_all_else.Goals as goal

pub returns-clause-rows : goal.returns-clause-rows
returns-clause-rows c = only_loc

pub returns-clause-files : goal.returns-clause-files
returns-clause-files c = only_file
