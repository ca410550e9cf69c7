-- What is written where the output fails is a front.
use Rattle.std.proofs.Common.{List, ℕ, subst}
use Rattle.elf_file.specs.Waiting.{SendsFront}
use Rattle.elf_file.proofs.WaitingLemmas.{err_of, some_sent}
use Rattle.elf_file.proofs.writing.flush.Goals as goal

pub returns-in_err-write_bytes-clause-front : goal.returns-in_err-write_bytes-clause-front
returns-in_err-write_bytes-clause-front g c =
    let before = g.O.Output.made c.args.obj.now in
    let now = g.O.Output.made c.write_bytes.new.obj in
    err_of c.from_residual.result
    (subst (λ (xs : List ℕ). SendsFront before now xs) c.as_slice.ensures (some_sent before now c.as_slice.result.now c.write_bytes.ensures.prefix))
