-- The head, the instructions and the padding are put one behind the other.
use Rattle.std.proofs.Common.{List, ◌∷◌, ◌∙◌, ap}
use Rattle.cfi_directives.specs.declared.frames.PlacedOp.{PlacedOp}
use Rattle.asm_base.specs.declared.places.SectionPlace.{SectionPlace}
use Rattle.table_pieces.specs.Ends.{end_place}
use Rattle.table_pieces.specs.Pieces.{pieces_put, tables_of}
use Rattle.eh_frame.specs.Entries.{op_pieces, counted_pieces, length_piece}
use Rattle.eh_frame.proofs.entries.put_entry.Goals as goal

pub returns-clause-ok : goal.returns-clause-ok
returns-clause-ok c =
    c.in_ok-put_padding.ensures.ok ∙ c.in_ok-put_ops.ensures.ok c.args.log
    ∙ ap (λ (ops : List PlacedOp). pieces_put c.args.section c.args.frame.now.pos (op_pieces c.args.frame.now.section c.args.log c.args.frame.now.start ops) (tables_of c.put_head.new.symbols c.put_head.new.sections)) c.as_slice-ops.ensures
    ∙ c.in_ok-put_head.ensures.ok c.args.log
    ∙ ap (λ (stop : SectionPlace). pieces_put c.args.section c.args.frame.now.pos (length_piece stop ∷ counted_pieces c.args.common c.args.log c.args.frame.now) (tables_of c.args.symbols.now c.args.sections.now))
    (c.place-stop.ensures ∙ ap (end_place c.args.section) (c.in-Some.ensures c.args.common c.args.log))
