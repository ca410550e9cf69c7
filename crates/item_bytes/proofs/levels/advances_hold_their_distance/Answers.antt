-- By the lemmas on limits.
use Rattle.item_bytes.proofs.LimitLemmas.{advance_holds, advance_beyond}
use Rattle.item_bytes.proofs.levels.advances_hold_their_distance.Goals as goal

pub returns-clause-holds : goal.returns-clause-holds
returns-clause-holds c = advance_holds

pub returns-clause-beyond : goal.returns-clause-beyond
returns-clause-beyond c = advance_beyond
