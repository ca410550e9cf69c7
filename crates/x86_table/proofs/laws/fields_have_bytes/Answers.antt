use Rattle.x86_table.specs.Rows.{the_rows}
use Rattle.x86_table.proofs.RowHeads.{are_bytes}
use Rattle.x86_table.proofs.TableFacts.{stand}
use Rattle.x86_table.proofs.OneReading.{each}
use Rattle.x86_table.proofs.laws.fields_have_bytes.Goals as goal

pub returns : goal.returns
returns c = λ i r p found fit. are_bytes r p (each r the_rows i stand found) fit
