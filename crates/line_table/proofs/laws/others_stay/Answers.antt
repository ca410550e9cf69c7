-- By what each piece makes of its section, and adds.
use Rattle.line_table.proofs.AddedNames.{others_stay}
use Rattle.line_table.proofs.laws.others_stay.Goals as goal

pub returns : goal.returns
returns c =
    others_stay (record { pieces = c.pieces_stand_behind.ensures.pieces; extensions = c.pieces_stand_behind.ensures.extensions })
    (record { pieces = c.places_are_named.ensures.pieces; same = c.places_are_named.ensures.same; on = c.places_are_named.ensures.on })
    (record { ready = c.pieces_are_found.ensures.ready; pieces = c.pieces_are_found.ensures.pieces })
