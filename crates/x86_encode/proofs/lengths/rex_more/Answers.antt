use Rattle.std.proofs.Common.{◌∙◌, sym}
use Rattle.x86_table.specs.Bytes.{rex_bits}
use Rattle.x86_table.specs.Fields.{fields_of}
use Rattle.x86_encode.proofs.Length.{rex_more, rex_none, bits_least}
use Rattle.x86_encode.proofs.lengths.rex_more.Goals as goal

pub returns-then-row-clause-value : goal.returns-then-row-clause-value
returns-then-row-clause-value c = rex_more c.args.row.now.lead.wide (rex_bits c.args.row.now (fields_of c.args.parts.now)) c.args.parts.now.bare_rex c.if-row.true
    (bits_least c.args.row.now (fields_of c.args.parts.now))

pub returns-then-rex-clause-value : goal.returns-then-rex-clause-value
returns-then-rex-clause-value c = rex_none c.args.row.now.lead.wide (rex_bits c.args.row.now (fields_of c.args.parts.now)) c.args.parts.now.bare_rex _ c.if-row.false
    (sym c.requires ∙ c.if-rex.true)

pub returns-else-rex-clause-value : goal.returns-else-rex-clause-value
returns-else-rex-clause-value c = rex_none c.args.row.now.lead.wide (rex_bits c.args.row.now (fields_of c.args.parts.now)) c.args.parts.now.bare_rex _ c.if-row.false
    (sym c.requires ∙ c.if-rex.false)
