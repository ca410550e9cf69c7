use Rattle.cfi_entries.proofs.WrittenLemmas.{written_row}
use Rattle.cfi_entries.proofs.laws.rows_read_back.Goals as goal

pub returns : goal.returns
returns c = written_row c.numbers_read_back.ensures
