use Rattle.line_rows.proofs.TableLemmas.{table_line}
use Rattle.line_rows.proofs.laws.tables_read_back.Goals as goal

pub returns : goal.returns
returns c = table_line c.numbers_read_back.ensures
