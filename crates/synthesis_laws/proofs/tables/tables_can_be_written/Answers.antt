use Rattle.synthesis_laws.proofs.WrittenTables.{tables_can_be_written}
use Rattle.synthesis_laws.proofs.tables.tables_can_be_written.Goals as goal

-- src/tables.rt:10:1
pub returns : goal.returns
returns c =
    tables_can_be_written (record {
      led = c.differences_lead.ensures.led;
      alike = c.differences_lead.ensures.alike;
      written = c.differences_lead.ensures.written;
      begin = c.rows_begin.ensures;
    })
