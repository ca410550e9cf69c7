use Rattle.synthesis_laws.proofs.TablesOfItems.{tables_are_of_items}
use Rattle.synthesis_laws.proofs.tables.tables_are_of_items.Goals as goal

pub returns : goal.returns
returns c = tables_are_of_items
