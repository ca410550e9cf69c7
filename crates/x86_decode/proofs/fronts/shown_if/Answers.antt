use Rattle.x86_table.specs.Fields.{fields_of}
use Rattle.x86_decode.proofs.fronts.shown_if.Goals as goal

pub bytes_of-own-requires : goal.bytes_of-own-requires
bytes_of-own-requires c = c.fields_have_bytes.ensures c.requires.there.0 c.args.found.row.now (fields_of c.args.parts) c.requires.there.1 cc
