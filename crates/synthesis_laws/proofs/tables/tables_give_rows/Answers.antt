use Rattle.synthesis_laws.proofs.GivenRows.{tables_give_rows}
use Rattle.synthesis_laws.proofs.tables.tables_give_rows.Goals as goal

-- src/tables.rt:22:1
pub returns : goal.returns
returns c =
    tables_give_rows (record {
      led = c.differences_lead.ensures.led;
      alike = c.differences_lead.ensures.alike;
      written = c.differences_lead.ensures.written;
      begin = c.rows_begin.ensures;
    }) c.rows_stand_at_places.ensures
