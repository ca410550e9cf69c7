-- The repetition goes behind the bytes.
use Rattle.elf_file.proofs.WaitingLemmas.{err_of, first_front, both_front, both_sent, on_ok, on_err}
use Rattle.elf_file.proofs.writing.put_both.Goals as goal

pub returns-in_err-put_bytes-clause-front : goal.returns-in_err-put_bytes-clause-front
returns-in_err-put_bytes-clause-front g c =
    err_of c.from_residual.result (first_front c.args.buffer.now c.args.bytes.now c.args.held.now c.in_err-put_bytes.ensures.front)

pub returns-clause-sent : goal.returns-clause-sent
returns-clause-sent g c =
    on_ok c.put_repetition.result
    (both_sent c.args.buffer.now c.args.bytes.now c.args.held.now c.put_bytes.new.buffer c.put_repetition.new.buffer c.in_ok-put_bytes.ensures.sent) c.put_repetition.ensures.sent

pub returns-clause-front : goal.returns-clause-front
returns-clause-front g c =
    on_err c.put_repetition.result (both_front c.args.buffer.now c.args.bytes.now c.args.held.now c.put_bytes.new.buffer c.in_ok-put_bytes.ensures.sent) c.put_repetition.ensures.front
