-- Each clause is a record that computes.
use Rattle.cfi_entries.proofs.WorkedEntries.{common_entries, differences, frame_rows, other_rows, pointer_rows, written_bytes}
use Rattle.cfi_entries.proofs.laws.worked_rows.Goals as goal

pub returns-clause-framed : goal.returns-clause-framed
returns-clause-framed c = frame_rows

pub returns-clause-others : goal.returns-clause-others
returns-clause-others c = other_rows

pub returns-clause-pointers : goal.returns-clause-pointers
returns-clause-pointers c = pointer_rows

pub returns-clause-bytes : goal.returns-clause-bytes
returns-clause-bytes c = written_bytes

pub returns-clause-differences : goal.returns-clause-differences
returns-clause-differences c = differences

pub returns-clause-commons : goal.returns-clause-commons
returns-clause-commons c = common_entries
