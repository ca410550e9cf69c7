-- By the labels that each piece brings.
use Rattle.eh_frame.proofs.TableSteps.{table_gets}
use Rattle.eh_frame.proofs.laws.tables_get_labels.Goals as goal

pub returns : goal.returns
returns c =
    table_gets
    (record { pieces = c.places_are_named.ensures.pieces; same = c.places_are_named.ensures.same; on = c.places_are_named.ensures.on })
