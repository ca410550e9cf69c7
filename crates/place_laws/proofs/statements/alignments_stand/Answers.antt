use Rattle.place_laws.proofs.Aligning.{alignments_stand}
use Rattle.place_laws.proofs.statements.alignments_stand.Goals as goal

pub returns : goal.returns
returns c = alignments_stand
