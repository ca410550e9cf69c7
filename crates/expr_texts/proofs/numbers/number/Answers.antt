-- One digit more is behind the number, or makes it too wide.
use Rattle.std.proofs.Common.{◌<◌, length, arith}
use Rattle.expr_texts.proofs.NumberLemmas.{number_step, number_too_wide}
use Rattle.expr_texts.proofs.numbers.number.Goals as goal

pub returns-in-None : goal.returns-in-None
returns-in-None c =
    let inside : c.loop-digit.digit-index < length c.args.digits.now = omega arith in
    rw (← c.loop-digit.invariant) (number_too_wide c.args.radix c.loop-digit.number c.loop-digit.digit-index c.args.digits.now c.requires inside c.in-None.ensures)

pub loop-digit-preserved : goal.loop-digit-preserved
loop-digit-preserved c =
    let inside : c.loop-digit.digit-index < length c.args.digits.now = omega arith in
    let step = number_step c.args.radix c.loop-digit.number c.loop-digit.digit-index c.args.digits.now inside in
    rw c.in-Some.ensures (rw (← step) c.loop-digit.invariant)
