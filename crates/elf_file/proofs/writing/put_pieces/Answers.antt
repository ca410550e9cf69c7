-- A piece more goes behind the bytes that wait.
use Rattle.std.proofs.Common.{◌+◌, drop, ◌∙◌}
use Rattle.elf_file.specs.Pieces.{piece_bytes, flat}
use Rattle.elf_file.proofs.LoopSteps.{next_is}
use Rattle.elf_file.proofs.WaitingLemmas.{err_of, step_front, step_sent}
use Rattle.elf_file.proofs.writing.put_pieces.Goals as goal

pub returns-in_err-put_piece-clause-front : goal.returns-in_err-put_piece-clause-front
returns-in_err-put_piece-clause-front g c =
    let pieces = c.args.pieces.now in
    let i = c.loop-piece.piece-index in
    let piece = c.piece-item.result in
    err_of c.from_residual.result
    (step_front c.loop-piece.buffer (piece_bytes piece) (flat (drop (i + 1) pieces)) (flat (drop i pieces)) c.loop-piece.invariant.sends
    (next_is flat pieces i piece c.loop-piece-test.true c.piece-item.is) c.in_err-put_piece.ensures.front)

pub loop-piece-preserved : goal.loop-piece-preserved
loop-piece-preserved g c =
    let pieces = c.args.pieces.now in
    let i = c.loop-piece.piece-index in
    let piece = c.piece-item.result in record {
      sends = step_sent c.loop-piece.buffer (piece_bytes piece) (flat (drop (i + 1) pieces)) (flat (drop i pieces)) c.put_piece.new.buffer c.loop-piece.invariant.sends
          (next_is flat pieces i piece c.loop-piece-test.true c.piece-item.is) c.in_ok-put_piece.ensures.sent;
      faults = c.in_ok-put_piece.ensures.cause.same ∙ c.loop-piece.invariant.faults;
    }
