-- Behind the bytes that waited others are written.
use Rattle.elf_file.proofs.WaitingLemmas.{err_of, front_more, flushed_front, flushed_sent, on_ok}
use Rattle.elf_file.proofs.writing.put_more.Goals as goal

pub returns-in_err-flush-clause-front : goal.returns-in_err-flush-clause-front
returns-in_err-flush-clause-front g c = err_of c.from_residual.result (front_more c.args.bytes.now c.in_err-flush.ensures.front)

pub returns-then-bytes-gt-ROOM-clause-sent : goal.returns-then-bytes-gt-ROOM-clause-sent
returns-then-bytes-gt-ROOM-clause-sent g c =
    on_ok c.write_bytes.result (flushed_sent c.args.buffer.now c.args.bytes.now c.flush.new.buffer c.in_ok-flush.ensures.ok c.in_ok-flush.ensures.empty) c.write_bytes.ensures.ok

pub returns-then-bytes-gt-ROOM-clause-front : goal.returns-then-bytes-gt-ROOM-clause-front
returns-then-bytes-gt-ROOM-clause-front g c =
    err_of c.write_bytes.result (flushed_front c.args.buffer.now c.args.bytes.now c.in_ok-flush.ensures.ok c.write_bytes.ensures.prefix)
