-- By the lemmas on padding.
use Rattle.asm_levels.proofs.PaddingLemmas.{multiple, least}
use Rattle.asm_levels.proofs.laws.padding_is_least.Goals as goal

pub returns-clause-multiple : goal.returns-clause-multiple
returns-clause-multiple c = multiple

pub returns-clause-least : goal.returns-clause-least
returns-clause-least c = least
