use Rattle.loaded_laws.proofs.Relocated.{values_are_alone}
use Rattle.loaded_laws.proofs.beside.values_are_alone.Goals as goal

pub returns : goal.returns
returns c = values_are_alone
