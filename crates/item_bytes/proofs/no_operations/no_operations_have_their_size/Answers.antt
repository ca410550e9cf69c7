-- By the lemmas on what fills a padding.
use Rattle.item_bytes.proofs.FillingLemmas.{one, all_filled}
use Rattle.item_bytes.proofs.no_operations.no_operations_have_their_size.Goals as goal

pub returns-clause-one : goal.returns-clause-one
returns-clause-one c = one

pub returns-clause-all : goal.returns-clause-all
returns-clause-all c = all_filled
