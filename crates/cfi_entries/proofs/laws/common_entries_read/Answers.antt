-- Each clause is a lemma on the definitions.
use Rattle.cfi_entries.proofs.CommonLemmas.{common_reads, common_rows, plain_bytes, whole}
use Rattle.cfi_entries.proofs.FormOfBytes.{only}
use Rattle.cfi_entries.proofs.laws.common_entries_read.Goals as goal

pub returns-clause-form : goal.returns-clause-form
returns-clause-form c = common_reads

pub returns-clause-row : goal.returns-clause-row
returns-clause-row c = common_rows

pub returns-clause-plain : goal.returns-clause-plain
returns-clause-plain c = plain_bytes

pub returns-clause-whole : goal.returns-clause-whole
returns-clause-whole c = whole

pub returns-clause-only : goal.returns-clause-only
returns-clause-only c = only
