-- By what each piece makes of its section.
use Rattle.eh_frame.proofs.TableLemmas.{is_placed}
use Rattle.eh_frame.proofs.laws.tables_are_found.Goals as goal

pub returns : goal.returns
returns c frame frames tables after low is =
    is_placed (record { pieces = c.pieces_stand_behind.ensures.pieces; extensions = c.pieces_stand_behind.ensures.extensions })
    (record { ready = c.pieces_are_found.ensures.ready; pieces = c.pieces_are_found.ensures.pieces }) frame frames tables after low is
