-- By the lemma on the bytes of a jump.
use Rattle.item_bytes.proofs.JumpLemmas.{are_bytes}
use Rattle.item_bytes.proofs.jumps.jump_reads_back.Goals as goal

pub returns-clause-bytes : goal.returns-clause-bytes
returns-clause-bytes c = are_bytes
