use Rattle.place_laws.proofs.Aligning.{runs_move_nothing}
use Rattle.place_laws.proofs.statements.runs_move_nothing.Goals as goal

pub returns : goal.returns
returns c = runs_move_nothing
