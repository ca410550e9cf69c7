-- What is put extends its section.
use Rattle.line_table.specs.Placing.{unit_pieces}
use Rattle.line_table.proofs.laws.tables_stand_behind.Goals as goal

pub returns : goal.returns
returns c section pos lines tables = c.pieces_stand_behind.ensures.pieces section pos (unit_pieces section tables.sections lines) tables
