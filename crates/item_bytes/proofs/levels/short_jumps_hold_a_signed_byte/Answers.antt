-- By the lemmas on limits and tops.
use Rattle.item_bytes.proofs.LimitLemmas.{jump_holds}
use Rattle.item_bytes.proofs.LimitLemmas.{jump-le}
use Rattle.item_bytes.proofs.levels.short_jumps_hold_a_signed_byte.Goals as goal

pub returns-clause-short : goal.returns-clause-short
returns-clause-short c = jump_holds

pub returns-clause-near : goal.returns-clause-near
returns-clause-near c = jump-le
