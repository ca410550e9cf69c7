-- The pieces of an entry are written lines.
use Rattle.eh_frame.proofs.ReadingLemmas.{entries_read, rows_are_meant}
use Rattle.eh_frame.proofs.laws.entries_read.Goals as goal

pub returns-clause-read : goal.returns-clause-read
returns-clause-read c = entries_read c.advances_hold_their_distance.ensures.holds c.entries_read_back.ensures

pub returns-clause-meant : goal.returns-clause-meant
returns-clause-meant c = rows_are_meant
