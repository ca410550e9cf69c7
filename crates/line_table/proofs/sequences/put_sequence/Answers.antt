-- The start, the rows and the stop are put one behind the other.
use Rattle.std.proofs.Common.{ℕ, List, ◌∙◌, ap}
use Rattle.asm_base.specs.declared.places.SectionPlace.{SectionPlace}
use Rattle.line_directives.specs.declared.sequences.Sequence.{Sequence}
use Rattle.table_pieces.specs.declared.marks.Distance.{Distance}
use Rattle.table_pieces.specs.Pieces.{Piece, pieces_put, tables_of}
use Rattle.line_table.specs.Sequences.{place_in, gap_pieces, start_pieces, stop_pieces, sequence_pieces}
use Rattle.line_table.proofs.ResultLemmas.{ok_on}
use Rattle.line_table.proofs.sequences.put_sequence.Goals as goal

-- a sequence that ends so far behind its last row
abbrev sequence_to : ℕ → Sequence → Distance → List Piece → List Piece
sequence_to section sequence distance pieces =
    start_pieces (place_in section sequence.start) (gap_pieces section 0 sequence.rows.gaps sequence.rows.bytes (stop_pieces distance pieces))

pub returns-clause-ok : goal.returns-clause-ok
returns-clause-ok c pieces =
    ok_on c.put_stop.result (pieces_put c.args.table.section c.args.table.pos pieces (tables_of c.put_stop.new.symbols c.put_stop.new.sections))
    (pieces_put c.args.table.section c.args.table.pos (stop_pieces c.distance_in-distance.result pieces) (tables_of c.put_rows.new.symbols c.put_rows.new.sections))
    (pieces_put c.args.table.section c.args.table.pos (sequence_pieces c.args.section c.args.end c.args.sequence.now pieces) (tables_of c.args.symbols.now c.args.sections.now))
    (c.in_ok-put_rows.ensures.ok (stop_pieces c.distance_in-distance.result pieces)
    ∙ c.in_ok-put_start.ensures.ok (gap_pieces c.args.section 0 c.args.sequence.now.rows.gaps c.args.sequence.now.rows.bytes (stop_pieces c.distance_in-distance.result pieces))
    ∙ ap (λ (start : SectionPlace). pieces_put c.args.table.section c.args.table.pos (start_pieces start (gap_pieces c.args.section 0 c.args.sequence.now.rows.gaps c.args.sequence.now.rows.bytes (stop_pieces c.distance_in-distance.result pieces))) (tables_of c.args.symbols.now c.args.sections.now)) c.place_in-start.ensures
    ∙ ap (λ (distance : Distance). pieces_put c.args.table.section c.args.table.pos (sequence_to c.args.section c.args.sequence.now distance pieces) (tables_of c.args.symbols.now c.args.sections.now)) c.distance_in-distance.ensures)
    (c.put_stop.ensures.ok pieces)
