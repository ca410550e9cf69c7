-- By what each piece adds.
use Rattle.line_table.proofs.AddedNames.{tables_add_little}
use Rattle.line_table.proofs.laws.tables_add_little.Goals as goal

pub returns : goal.returns
returns c =
    tables_add_little (record { pieces = c.pieces_stand_behind.ensures.pieces; extensions = c.pieces_stand_behind.ensures.extensions })
    (record { pieces = c.places_are_named.ensures.pieces; same = c.places_are_named.ensures.same; on = c.places_are_named.ensures.on })
