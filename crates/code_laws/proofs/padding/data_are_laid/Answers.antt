use Rattle.code_laws.proofs.Aligning.{data_are_laid}
use Rattle.code_laws.proofs.padding.data_are_laid.Goals as goal

pub returns : goal.returns
returns c = data_are_laid c.growth_moves_places.ensures
