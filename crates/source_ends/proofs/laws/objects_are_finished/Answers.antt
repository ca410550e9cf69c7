use Rattle.source_ends.proofs.FinishedObjects.{objects_are_finished}
use Rattle.source_ends.proofs.laws.objects_are_finished.Goals as goal

pub returns : goal.returns
returns c = objects_are_finished
