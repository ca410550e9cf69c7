-- By what directives keep of files.
use Rattle.line_table.proofs.ListedLemmas.{files_are_listed}
use Rattle.line_table.proofs.laws.files_are_listed.Goals as goal

pub returns : goal.returns
returns c = files_are_listed
