use Rattle.code_laws.proofs.Views.{encodings_are_seen}
use Rattle.code_laws.proofs.instructions.encodings_are_seen.Goals as goal

pub returns : goal.returns
returns c = encodings_are_seen
