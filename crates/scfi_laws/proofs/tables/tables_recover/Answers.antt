use Rattle.scfi_laws.proofs.Tabling.{tables_recover, tables_restore}
use Rattle.scfi_laws.proofs.tables.tables_recover.Goals as goal

-- src/tables.rt:9:1
pub returns : goal.returns
returns c = record {
  rows = tables_recover c.analyses_are_one.ensures.analyses c.table_frames_mean_rows.ensures;
  exits = tables_restore c.analyses_are_one.ensures.analyses c.table_frames_mean_rows.ensures;
}
