-- The clause is a lemma on the definition.
use Rattle.asm_frames.proofs.KeepLemmas.{only_names}
use Rattle.asm_frames.proofs.laws.frame_directives_keep_all_else.Goals as goal

pub returns : goal.returns
returns c = only_names
