use Rattle.function_laws.proofs.Tabling.{tables_recover}
use Rattle.function_laws.proofs.recovered.function_tables_recover.Goals as goal

pub returns : goal.returns
returns c = tables_recover c.functions_are_tabled.ensures c.tables_recover.ensures.rows c.tables_recover.ensures.exits
