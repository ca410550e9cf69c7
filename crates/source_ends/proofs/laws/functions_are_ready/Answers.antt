use Rattle.source_ends.proofs.PlacesInOrder.{all_ready}
use Rattle.source_ends.proofs.laws.functions_are_ready.Goals as goal

pub returns : goal.returns
returns c = all_ready
