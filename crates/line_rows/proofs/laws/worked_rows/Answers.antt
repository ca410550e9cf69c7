-- Each clause is a record that computes.
use Rattle.line_rows.proofs.WorkedTables.{program_rows, table_rows, written_rows}
use Rattle.line_rows.proofs.laws.worked_rows.Goals as goal

pub returns-clause-tables : goal.returns-clause-tables
returns-clause-tables c = table_rows

pub returns-clause-programs : goal.returns-clause-programs
returns-clause-programs c = program_rows

pub returns-clause-bytes : goal.returns-clause-bytes
returns-clause-bytes c = written_rows
