-- The pieces before, and a front of the last.
use Rattle.std.specs.Prelude.{Result, Ok, Err, OnErr}
use Rattle.dis_run.proofs.Spoken.{cut_on}
use Rattle.dis_run.proofs.listing.say_listing.Goals as goal

on_err : {T E : Type 0} (result : Result T E) (P : Type 0) → P → OnErr result P
on_err (Ok value) P holds = tt
on_err (Err fault) P holds = holds

pub returns-in_err-at-clause-err : goal.returns-in_err-at-clause-err
returns-in_err-at-clause-err g c =
    on_err c.from_residual-in_err-at.result _
    (cut_on g.T.Texts.text c.args.bytes.now 0 c.pieces.at (g.C.Console.said c.args.con.now) (g.C.Console.said c.pieces.con) (g.C.Console.said c.say_piece.new.con)
    c.pieces.invariant.said c.in_err-at.ensures.err)
