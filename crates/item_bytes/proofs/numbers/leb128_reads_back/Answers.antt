-- By the lemmas on what is read.
use Rattle.item_bytes.proofs.ReadingLemmas.{reads_back, counted, are_bytes}
use Rattle.item_bytes.proofs.numbers.leb128_reads_back.Goals as goal

pub returns-clause-reads : goal.returns-clause-reads
returns-clause-reads c = reads_back

pub returns-clause-count : goal.returns-clause-count
returns-clause-count c = counted

pub returns-clause-bytes : goal.returns-clause-bytes
returns-clause-bytes c = are_bytes
