-- Those so far are all.
use Rattle.std.proofs.Common.{◌^◌, ◌<◌, length, arith}
use Rattle.std.proofs.lemmas.Bool.Decides.{nat_tests}
use Rattle.layer_rows.proofs.FittingLemmas.{rows_fit}
use Rattle.layer_rows.proofs.layouts.standing.all_fit.Goals as goal

pub returns : goal.returns
returns c = λ fits.
    (let few : length c.args.rows.now < 2 ^ 28 = grind (arith, nat_tests) in
    rows_fit c.args.rows.now (λ index default inside. c.loop-index.invariant index default (omega arith)) few)
