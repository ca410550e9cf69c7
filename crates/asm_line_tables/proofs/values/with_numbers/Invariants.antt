-- The numbers so far, with the values to come, are those with all.
use Rattle.std.proofs.Common.{◌≡◌, drop}
use Rattle.asm_line_tables.specs.Numbers.{no_numbers, with_numbers}
use Rattle.asm_line_tables.proofs.values.with_numbers.Given as goal

abbrev pub invariant-loop-index : goal.invariant-loop-index
invariant-loop-index l = with_numbers (drop l.index l.kinds) (drop l.index l.values) l.numbers ≡ with_numbers l.kinds l.values no_numbers
