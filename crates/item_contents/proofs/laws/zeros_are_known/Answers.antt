-- Known zeros are zeros, and others are not.
use Rattle.item_contents.proofs.ContentLemmas.{known_zeros, other_zeros}
use Rattle.item_contents.proofs.laws.zeros_are_known.Goals as goal

pub returns-clause-known : goal.returns-clause-known
returns-clause-known c = known_zeros

pub returns-clause-other : goal.returns-clause-other
returns-clause-other c = other_zeros
