-- Each clause is a law of `leb128`.
use Rattle.std.proofs.Common.{arith}
use Rattle.cfi_entries.proofs.NumberLemmas.{signed_reads}
use Rattle.cfi_entries.proofs.laws.numbers_are_least.Goals as goal

pub returns-clause-unsigned_read : goal.returns-clause-unsigned_read
returns-clause-unsigned_read c number rest fits = c.numbers_read_back.ensures.unsigned number rest (omega (arith, fits))

pub returns-clause-signed_read : goal.returns-clause-signed_read
returns-clause-signed_read c = signed_reads c.numbers_read_back.ensures

pub returns-clause-unsigned : goal.returns-clause-unsigned
returns-clause-unsigned c = c.numbers_are_least.ensures.unsigned

pub returns-clause-signed : goal.returns-clause-signed
returns-clause-signed c = c.numbers_are_least.ensures.signed
