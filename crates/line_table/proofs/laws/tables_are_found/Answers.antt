-- By what each piece makes of its section.
use Rattle.line_table.proofs.TableLemmas.{is_placed}
use Rattle.line_table.proofs.laws.tables_are_found.Goals as goal

pub returns : goal.returns
returns c pos lines tables after first low is =
    is_placed (record { pieces = c.pieces_stand_behind.ensures.pieces; extensions = c.pieces_stand_behind.ensures.extensions })
    (record { ready = c.pieces_are_found.ensures.ready; pieces = c.pieces_are_found.ensures.pieces }) pos lines tables after low first is
