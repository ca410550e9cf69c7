-- The forms that are read in one pass are spelled so.
use Rattle.std.proofs.Common.{◌-◌, length, take, drop, arith, length-drop}
use Rattle.std.proofs.lemmas.List.{length-take-le}
use Rattle.asm_operands.proofs.NumberLemmas.{sixteen_fits}
use Rattle.asm_operands.proofs.LeafLemmas.{decimal_found, hexadecimal_found}
use Rattle.asm_operands.proofs.numbers.long_number.Goals as goal

pub returns-then-digits-ne48 : goal.returns-then-digits-ne48
returns-then-digits-ne48 c = decimal_found c.args.digits.now c.fitting_number.result (omega arith) c.if-digits-ne48.true c.fitting_number.ensures

pub fitting_number-requires-then-digits-eq120-clause-within : goal.fitting_number-requires-then-digits-eq120-clause-within
fitting_number-requires-then-digits-eq120-clause-within c =
    let left = length-drop 2 c.args.digits.now in
    let taken = length-take-le (length c.args.digits.now - 2) (drop 2 c.args.digits.now) (omega arith) in
    sixteen_fits (length (take (length c.args.digits.now - 2) (drop 2 c.args.digits.now))) (omega arith)

pub returns-then-digits-eq120 : goal.returns-then-digits-eq120
returns-then-digits-eq120 c =
    hexadecimal_found c.args.digits.now c.fitting_number-then-digits-eq120.result (omega arith) c.if-digits-ne48.false c.if-digits-eq120.true c.fitting_number-then-digits-eq120.ensures
