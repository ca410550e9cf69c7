-- What is written is a front of all.
use Rattle.std.proofs.Common.{◌++◌}
use Rattle.elf_file.specs.Pieces.{flat}
use Rattle.elf_file.proofs.WaitingLemmas.{all_front, begun_long, both_front, both_sent, first_front, front_on, on_any}
use Rattle.elf_file.proofs.writing.write_pieces.Goals as goal

pub returns-in_err-put_bytes-clause-prefix : goal.returns-in_err-put_bytes-clause-prefix
returns-in_err-put_bytes-clause-prefix g c =
    let header = c.args.header.now in
    let bytes = flat c.args.pieces.now in
    let none = c.new-buffer.result in
    begun_long none (header ++ bytes) c.new-buffer.ensures (first_front none header bytes c.in_err-put_bytes.ensures.front)

pub returns-in_err-put_pieces-clause-prefix : goal.returns-in_err-put_pieces-clause-prefix
returns-in_err-put_pieces-clause-prefix g c =
    let header = c.args.header.now in
    let bytes = flat c.args.pieces.now in
    let none = c.new-buffer.result in
    begun_long none (header ++ bytes) c.new-buffer.ensures (both_front none header bytes c.put_bytes.new.buffer c.in_ok-put_bytes.ensures.sent c.in_err-put_pieces.ensures.front)

pub returns-clause-prefix : goal.returns-clause-prefix
returns-clause-prefix g c =
    let header = c.args.header.now in
    let bytes = flat c.args.pieces.now in
    let none = c.new-buffer.result in
    let left = c.put_pieces.new.buffer in
    let sent = both_sent none header bytes c.put_bytes.new.buffer left c.in_ok-put_bytes.ensures.sent c.in_ok-put_pieces.ensures.sent in
    let last = on_any c.flush.result (all_front left) (λ front. front) c.flush.ensures.ok c.flush.ensures.front in
    begun_long none (header ++ bytes) c.new-buffer.ensures (front_on sent last)
