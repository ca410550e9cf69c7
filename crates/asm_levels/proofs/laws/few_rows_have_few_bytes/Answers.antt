-- By the lemma on sums.
use Rattle.asm_levels.proofs.RowLemmas.{few_bytes}
use Rattle.asm_levels.proofs.laws.few_rows_have_few_bytes.Goals as goal

pub returns : goal.returns
returns c = few_bytes
