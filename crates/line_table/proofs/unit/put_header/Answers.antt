-- The length and the header stand behind what was there.
use Rattle.std.proofs.Common.{◌≡◌, [], ◌∷◌}
use Rattle.table_pieces.specs.Pieces.{plain, number, tables_of, piece_put}
use Rattle.table_pieces.specs.Standing.{OneExtends}
use Rattle.line_table.proofs.PieceFacts.{Extending, pieces_grow}
use Rattle.line_table.proofs.ResultLemmas.{ok_then}
use Rattle.line_table.proofs.unit.put_header.Goals as goal

pub returns-clause-grown : goal.returns-clause-grown
returns-clause-grown c =
    let extending : Extending = record { pieces = c.pieces_stand_behind.ensures.pieces; extensions = c.pieces_stand_behind.ensures.extensions } in
    ok_then c.put_plain.result
    (tables_of c.put_number.new.symbols c.put_plain.new.sections
    ≡ piece_put c.args.table.section c.args.table.pos (plain c.as_slice-2.result.now) (tables_of c.put_number.new.symbols c.put_number.new.sections))
    (OneExtends c.args.table.section c.args.sections.now c.put_plain.new.sections)
    (λ is. extending.extensions.on c.args.table.section c.args.sections.now c.put_number.new.sections c.put_plain.new.sections
    (pieces_grow extending c.args.table.section c.args.table.pos (number c.new-length.result ∷ []) c.args.symbols.now c.put_number.new.symbols c.args.sections.now c.put_number.new.sections
    c.in_ok-put_number.ensures.ok)
    (pieces_grow extending c.args.table.section c.args.table.pos (plain c.as_slice-2.result.now ∷ []) c.put_number.new.symbols c.put_number.new.symbols c.put_number.new.sections c.put_plain.new.sections is))
    c.put_plain.ensures.ok
