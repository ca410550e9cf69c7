-- By the lemmas on limits and tops.
use Rattle.item_bytes.proofs.LimitLemmas.{unsigned_holds, signed_holds}
use Rattle.item_bytes.proofs.LimitLemmas.{unsigned-le, signed-le}
use Rattle.item_bytes.proofs.levels.groups_hold_their_number.Goals as goal

pub returns-clause-unsigned : goal.returns-clause-unsigned
returns-clause-unsigned c = unsigned_holds

pub returns-clause-signed : goal.returns-clause-signed
returns-clause-signed c = signed_holds

pub returns-clause-most_unsigned : goal.returns-clause-most_unsigned
returns-clause-most_unsigned c = unsigned-le

pub returns-clause-most_signed : goal.returns-clause-most_signed
returns-clause-most_signed c = signed-le
