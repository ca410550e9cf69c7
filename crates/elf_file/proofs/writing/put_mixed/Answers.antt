-- The next held bytes and the repetition behind them go behind the bytes that wait.
use Rattle.std.proofs.Common.{◌+◌, ◌-◌, ◌++◌, List, ℕ, drop, take, length, subst, ap, ◌∙◌, arith}
use Rattle.std.proofs.lemmas.Grind.{common_steps}
use Rattle.std.specs.Prelude.{slice_range}
use Rattle.elf_file.specs.Pieces.{mixed}
use Rattle.elf_file.specs.Waiting.{Sends, SendsFront}
use Rattle.elf_file.proofs.MixedLemmas.{mixed_next, mixed_rest, mixed_same}
use Rattle.elf_file.proofs.WaitingLemmas.{err_of, step_front, step_sent, last_front, last_sent, on_ok, on_err}
use Rattle.elf_file.proofs.writing.put_mixed.Goals as goal

pub returns-in_err-put_both-clause-front : goal.returns-in_err-put_both-clause-front
returns-in_err-put_both-clause-front g c =
    let bytes = c.as_slice-bytes.result.now in
    let between = c.as_slice-between.result.now in
    let i = c.loop-one.one-index in
    let at = c.loop-one.at in
    let upto = at + c.min.result in
    let one = c.one-item.result in
    let whole = mixed_same c.args.held.now bytes between c.as_slice-bytes.ensures.value c.as_slice-between.ensures.value in
    let all = c.args.buffer.now ++ mixed bytes between in
    err_of c.from_residual.result
    (subst (λ (xs : List ℕ). SendsFront (g.O.Output.made c.args.obj.now) (g.O.Output.made c.put_both.new.obj) (c.args.buffer.now ++ xs)) whole
    (step_front {whole = all} c.loop-one.buffer (slice_range bytes at upto ++ one.repetition) (mixed (drop upto bytes) (drop (i + 1) between)) (mixed (drop at bytes) (drop i between))
    c.loop-one.invariant.sends
    (mixed_next bytes between i at upto one c.loop-one-test.true c.one-item.is c.loop-one.invariant.within (ap (λ n. at + n) c.min.ensures)) c.in_err-put_both.ensures.front))

pub loop-one-preserved : goal.loop-one-preserved
loop-one-preserved g c =
    let bytes = c.as_slice-bytes.result.now in
    let between = c.as_slice-between.result.now in
    let i = c.loop-one.one-index in
    let at = c.loop-one.at in
    let upto = at + c.min.result in
    let one = c.one-item.result in
    let all = c.args.buffer.now ++ mixed bytes between in
    record {
      within = grind (arith, common_steps);
      sends = step_sent {whole = all} c.loop-one.buffer (slice_range bytes at upto ++ one.repetition) (mixed (drop upto bytes) (drop (i + 1) between)) (mixed (drop at bytes) (drop i between))
          c.put_both.new.buffer c.loop-one.invariant.sends
          (mixed_next bytes between i at upto one c.loop-one-test.true c.one-item.is c.loop-one.invariant.within (ap (λ n. at + n) c.min.ensures)) c.in_ok-put_both.ensures.sent;
      faults = c.in_ok-put_both.ensures.cause.same ∙ c.loop-one.invariant.faults;
    }

pub returns-clause-sent : goal.returns-clause-sent
returns-clause-sent g c =
    let bytes = c.as_slice-bytes.result.now in
    let between = c.as_slice-between.result.now in
    let i = c.loop-one.one-index in
    let at = c.loop-one.at in
    let whole = mixed_same c.args.held.now bytes between c.as_slice-bytes.ensures.value c.as_slice-between.ensures.value in
    let all = c.args.buffer.now ++ mixed bytes between in
    on_ok c.put_bytes.result
    (λ sent. subst (λ (xs : List ℕ). Sends (g.O.Output.made c.args.obj.now) (g.O.Output.made c.put_bytes.new.obj) (c.args.buffer.now ++ xs) c.put_bytes.new.buffer) whole
    (last_sent {whole = all} c.loop-one.buffer (take (length bytes - at) (drop at bytes)) (mixed (drop at bytes) (drop i between)) c.put_bytes.new.buffer c.loop-one.invariant.sends
    (mixed_rest bytes between i at c.loop-one-test.false) sent)) c.put_bytes.ensures.sent

pub returns-clause-front : goal.returns-clause-front
returns-clause-front g c =
    let bytes = c.as_slice-bytes.result.now in
    let between = c.as_slice-between.result.now in
    let i = c.loop-one.one-index in
    let at = c.loop-one.at in
    let whole = mixed_same c.args.held.now bytes between c.as_slice-bytes.ensures.value c.as_slice-between.ensures.value in
    let all = c.args.buffer.now ++ mixed bytes between in
    on_err c.put_bytes.result
    (λ front. subst (λ (xs : List ℕ). SendsFront (g.O.Output.made c.args.obj.now) (g.O.Output.made c.put_bytes.new.obj) (c.args.buffer.now ++ xs)) whole
    (last_front {whole = all} c.loop-one.buffer (take (length bytes - at) (drop at bytes)) (mixed (drop at bytes) (drop i between)) c.loop-one.invariant.sends
    (mixed_rest bytes between i at c.loop-one-test.false) front)) c.put_bytes.ensures.front
