-- One to three decimal digits are spelled so.
use Rattle.asm_operands.proofs.LeafLemmas.{short_found}
use Rattle.asm_operands.proofs.numbers.short_number.Goals as goal

pub returns-then-are_decimal : goal.returns-then-are_decimal
returns-then-are_decimal c =
    let small = c.are_decimal.ensures.digits c.if-are_decimal.true in
    short_found c.args.digits.now _ _ _ _ c.requires.some c.requires.few
    (c.decimal_value-first.ensures small.0, small.0) (c.decimal_value-middle.ensures small.1, small.1) (c.decimal_value-last.ensures small.2, small.2)
    (c.are_decimal.ensures.plain c.if-are_decimal.true) c.decimal_number.ensures.one c.decimal_number.ensures.two c.decimal_number.ensures.three
