-- What procedures share, and the list of a table's entries.
use Rattle.eh_frame.proofs.SharedCommons.{sharing_is_equality}
use Rattle.eh_frame.proofs.SharingLemmas.{commons_are_first, tables_are_listed}
use Rattle.eh_frame.proofs.laws.commons_are_shared.Goals as goal

pub returns-clause-equal : goal.returns-clause-equal
returns-clause-equal c = sharing_is_equality

pub returns-clause-listed : goal.returns-clause-listed
returns-clause-listed c = tables_are_listed

pub returns-clause-first : goal.returns-clause-first
returns-clause-first c = commons_are_first
