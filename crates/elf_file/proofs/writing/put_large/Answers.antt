-- Behind the bytes that waited others are written.
use Rattle.elf_file.proofs.WaitingLemmas.{err_of, front_more, flushed_front, flushed_sent, on_ok}
use Rattle.elf_file.proofs.writing.put_large.Goals as goal

pub returns-in_err-flush-clause-front : goal.returns-in_err-flush-clause-front
returns-in_err-flush-clause-front g c = err_of c.from_residual.result (front_more c.args.held.now c.in_err-flush.ensures.front)

pub returns-in_default-clause-sent : goal.returns-in_default-clause-sent
returns-in_default-clause-sent g c =
    on_ok c.write_repetition.result (flushed_sent c.args.buffer.now c.args.held.now c.flush.new.buffer c.in_ok-flush.ensures.ok c.in_ok-flush.ensures.empty) c.write_repetition.ensures.ok

pub returns-in_default-clause-front : goal.returns-in_default-clause-front
returns-in_default-clause-front g c =
    err_of c.write_repetition.result (flushed_front c.args.buffer.now c.args.held.now c.in_ok-flush.ensures.ok c.write_repetition.ensures.prefix)
