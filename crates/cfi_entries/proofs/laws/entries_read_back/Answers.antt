use Rattle.cfi_entries.proofs.EntryLemmas.{entry_row}
use Rattle.cfi_entries.proofs.laws.entries_read_back.Goals as goal

pub returns : goal.returns
returns c = entry_row c.numbers_read_back.ensures
