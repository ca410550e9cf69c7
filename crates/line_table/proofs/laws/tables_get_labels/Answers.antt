-- By the labels that its pieces bring.
use Rattle.line_table.specs.Placing.{unit_pieces}
use Rattle.line_table.proofs.laws.tables_get_labels.Goals as goal

pub returns : goal.returns
returns c section pos lines tables = c.places_are_named.ensures.pieces section pos (unit_pieces section tables.sections lines) tables
