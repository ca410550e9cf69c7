-- One digit more still fits, and those that are through are the numeral.
use Rattle.std.proofs.Common.{length, refl, sym, ◌∙◌, arith}
use Rattle.asm_operands.proofs.NumberLemmas.{step_below, step_fits, number_step, all_step, numeral_done}
use Rattle.asm_operands.proofs.numbers.fitting_number.Goals as goal

pub overflow_mul-number : goal.overflow_mul-number
overflow_mul-number c =
    let fits = step_fits c.args.radix c.loop-byte.number c.in_ok-digit.digit c.loop-byte.byte-index (length c.args.digits.now) c.loop-byte.invariant.low c.in_ok-digit.ensures.1 c.loop-byte-test.true c.requires.within in
    omega (arith, fits)

pub overflow_add-number : goal.overflow_add-number
overflow_add-number c =
    let fits = step_fits c.args.radix c.loop-byte.number c.in_ok-digit.digit c.loop-byte.byte-index (length c.args.digits.now) c.loop-byte.invariant.low c.in_ok-digit.ensures.1 c.loop-byte-test.true c.requires.within in
    omega (arith, fits)

pub loop-byte-preserved : goal.loop-byte-preserved
loop-byte-preserved c =
    let same = c.in_ok-digit.ensures.0 in
    let small = c.in_ok-digit.ensures.1 in
    record {
      value = rw same (sym (number_step c.args.radix c.loop-byte.number c.loop-byte.byte-index c.args.digits.now c.loop-byte-test.true) ∙ c.loop-byte.invariant.value);
      all = sym (all_step c.args.radix c.loop-byte.byte-index c.args.digits.now c.loop-byte-test.true (rw same at small)) ∙ c.loop-byte.invariant.all;
      low = step_below c.args.radix c.loop-byte.number c.in_ok-digit.digit c.loop-byte.byte-index c.loop-byte.invariant.low small;
    }

pub returns : goal.returns
returns c =
    numeral_done c.args.radix c.loop-byte.number (length c.args.digits.now) c.loop-byte.byte-index c.args.digits.now c.requires.digits refl c.loop-byte-test.false c.loop-byte.invariant.low c.loop-byte.auto.byte-index-end c.requires.within
    c.loop-byte.invariant.value c.loop-byte.invariant.all
