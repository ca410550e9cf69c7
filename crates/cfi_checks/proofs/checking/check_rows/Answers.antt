use Rattle.std.proofs.Common.{arith}
use Rattle.cfi_checks.specs.Places.{analyzed}
use Rattle.cfi_checks.proofs.CheckLemmas.{shows_on, shows_all}
use Rattle.cfi_checks.proofs.checking.check_rows.Goals as goal

pub loop-place-preserved : goal.loop-place-preserved
loop-place-preserved c =
    let a = analyzed c.args.checked.now in
    let i = c.loop-place.invariant in
    let t = c.in-Ok.ensures in
    record {
      shown = shows_on a c.args.checked.now.rows.now c.loop-place.place i.shown t.shown;
      within = t.begun.within;
      begun = λ k h. let l = t.begun.begun k h in omega arith;
      held = t.held;
    }

pub returns-clause-shown : goal.returns-clause-shown
returns-clause-shown c =
    let a = analyzed c.args.checked.now in
    let i = c.loop-place.invariant in
    let e = c.loop-place.auto.place-end in
    let t = c.loop-place-test.false in
    shows_all a c.args.checked.now.rows.now c.loop-place.place (omega arith) i.shown
