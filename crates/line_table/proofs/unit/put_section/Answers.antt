-- The sequence stands behind what was there.
use Rattle.std.proofs.Common.{◌≡◌, []}
use Rattle.table_pieces.specs.Pieces.{tables_of, pieces_put}
use Rattle.table_pieces.specs.Standing.{OneExtends}
use Rattle.line_table.specs.Sequences.{sequence_pieces}
use Rattle.line_table.proofs.PieceFacts.{Extending, pieces_grow}
use Rattle.line_table.proofs.ResultLemmas.{ok_then}
use Rattle.line_table.proofs.unit.put_section.Goals as goal

pub returns-in-Some-clause-grown : goal.returns-in-Some-clause-grown
returns-in-Some-clause-grown c first extends =
    let extending : Extending = record { pieces = c.pieces_stand_behind.ensures.pieces; extensions = c.pieces_stand_behind.ensures.extensions } in
    ok_then c.put_sequence.result
    (tables_of c.put_sequence.new.symbols c.put_sequence.new.sections
    ≡ pieces_put c.args.table.section c.args.table.pos (sequence_pieces c.args.section c.end_before-end.result c.in-Some.sequence []) (tables_of c.args.symbols.now c.args.sections.now))
    (OneExtends c.args.table.section first c.put_sequence.new.sections)
    (λ is. extending.extensions.on c.args.table.section first c.args.sections.now c.put_sequence.new.sections extends
    (pieces_grow extending c.args.table.section c.args.table.pos (sequence_pieces c.args.section c.end_before-end.result c.in-Some.sequence []) c.args.symbols.now c.put_sequence.new.symbols
    c.args.sections.now c.put_sequence.new.sections is))
    (c.put_sequence.ensures.ok [])
