-- Each clause is a lemma on the definitions.
use Rattle.leb128.proofs.LeastLemmas.{least_signed, least_unsigned}
use Rattle.leb128.proofs.laws.numbers_are_least.Goals as goal

pub returns-clause-unsigned : goal.returns-clause-unsigned
returns-clause-unsigned c = least_unsigned

pub returns-clause-signed : goal.returns-clause-signed
returns-clause-signed c = least_signed
