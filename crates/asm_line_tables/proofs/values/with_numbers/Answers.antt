-- No value is left.
use Rattle.std.proofs.Common.{sym, ◌∙◌, drop, arith}
use Rattle.std.proofs.lemmas.Bool.Decides.{nat_tests}
use Rattle.asm_line_tables.proofs.NumberLemmas.{no_value}
use Rattle.asm_line_tables.proofs.values.with_numbers.Goals as goal

pub returns-in_default : goal.returns-in_default
returns-in_default c =
    let past = c.in_default.ensures.lookup.0 in
    sym c.loop-index.invariant ∙ no_value (drop c.loop-index.index c.args.kinds.now) c.args.values.now c.loop-index.index c.loop-index.numbers (grind (arith, nat_tests))
