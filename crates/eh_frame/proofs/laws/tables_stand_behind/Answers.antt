-- What is put extends its section, entry by entry.
use Rattle.eh_frame.proofs.TableSteps.{entries_extend, table_extends}
use Rattle.eh_frame.proofs.laws.tables_stand_behind.Goals as goal

pub returns-clause-entries : goal.returns-clause-entries
returns-clause-entries c =
    entries_extend (record { pieces = c.pieces_stand_behind.ensures.pieces; extensions = c.pieces_stand_behind.ensures.extensions })

pub returns-clause-table : goal.returns-clause-table
returns-clause-table c =
    table_extends (record { pieces = c.pieces_stand_behind.ensures.pieces; extensions = c.pieces_stand_behind.ensures.extensions })
