-- Each clause is a lemma on the definitions.
use Rattle.line_rows.proofs.ReadBack.{address_reads, advance_reads, block_reads, column_reads, copy_reads, discriminator_reads, end_reads, epilogue_reads, file_reads, isa_reads, line_reads, negate_reads, prologue_reads, short_of}
use Rattle.line_rows.proofs.laws.operations_read_back.Goals as goal

pub returns-clause-copy : goal.returns-clause-copy
returns-clause-copy c = copy_reads

pub returns-clause-advance : goal.returns-clause-advance
returns-clause-advance c = advance_reads

pub returns-clause-line : goal.returns-clause-line
returns-clause-line c = λ number low high. line_reads c.numbers_read_back.ensures number (short_of number low high)

pub returns-clause-file : goal.returns-clause-file
returns-clause-file c = file_reads c.numbers_read_back.ensures

pub returns-clause-column : goal.returns-clause-column
returns-clause-column c = column_reads c.numbers_read_back.ensures

pub returns-clause-negate : goal.returns-clause-negate
returns-clause-negate c = negate_reads

pub returns-clause-block : goal.returns-clause-block
returns-clause-block c = block_reads

pub returns-clause-prologue : goal.returns-clause-prologue
returns-clause-prologue c = prologue_reads

pub returns-clause-epilogue : goal.returns-clause-epilogue
returns-clause-epilogue c = epilogue_reads

pub returns-clause-isa : goal.returns-clause-isa
returns-clause-isa c = isa_reads c.numbers_read_back.ensures

pub returns-clause-discriminator : goal.returns-clause-discriminator
returns-clause-discriminator c = discriminator_reads c.numbers_read_back.ensures

pub returns-clause-address : goal.returns-clause-address
returns-clause-address c = address_reads

pub returns-clause-end : goal.returns-clause-end
returns-clause-end c = end_reads
