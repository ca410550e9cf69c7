use Rattle.loaded_laws.proofs.CodeBytes.{loaded_beside}
use Rattle.loaded_laws.proofs.codes.loaded_beside.Goals as goal

pub returns : goal.returns
returns c = loaded_beside
