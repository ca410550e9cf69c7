use Rattle.x86_insn.specs.Views.{view_of}
use Rattle.x86_table.specs.Fields.{fields_of}
use Rattle.x86_parts.specs.Codes.{named}
use Rattle.x86_encode.proofs.Coded.{taking_made}
use Rattle.x86_encode.proofs.Search.{best_within, best_row, taking_fits}
use Rattle.x86_encode.proofs.making.encoded_of.Goals as goal

pub bounds-rows-found : goal.bounds-rows-found
bounds-rows-found c = best_within (named c.args.name (view_of c.args.insn.now c.args.values.now)) c.args.found.now c.rows.result.now c.rows.ensures c.requires

pub bytes_of-requires : goal.bytes_of-requires
bytes_of-requires c =
    let t = best_row (named c.args.name (view_of c.args.insn.now c.args.values.now)) c.args.found.now c.rows.result.now _ c.rows.ensures c.requires in
    c.fields_have_bytes.ensures c.args.found.now.row _ (fields_of c.args.found.now.parts) t.found (taking_fits (named c.args.name (view_of c.args.insn.now c.args.values.now)) c.args.found.now _ t)

pub returns : goal.returns
returns c =
    let t = best_row (named c.args.name (view_of c.args.insn.now c.args.values.now)) c.args.found.now c.rows.result.now _ c.rows.ensures c.requires in
    taking_made (named c.args.name (view_of c.args.insn.now c.args.values.now)) c.args.found.now _ c.bytes_of.result.items
    c.displacement_field.result c.immediate_field.result t c.bytes_of.ensures c.displacement_field.ensures c.immediate_field.ensures
