use Rattle.cfi_entries.proofs.PieceLemmas.{written_reads}
use Rattle.cfi_entries.proofs.laws.instructions_read_back.Goals as goal

pub returns-clause-read : goal.returns-clause-read
returns-clause-read c op bytes rest is = written_reads c.numbers_read_back.ensures op bytes rest is
