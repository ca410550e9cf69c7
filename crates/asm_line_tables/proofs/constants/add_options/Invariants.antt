-- The options so far are numbers alone.
use Rattle.std.proofs.Common.{◌≤◌, ◌-◌, map, length, drop}
use Rattle.asm_base.specs.Tokens.{spelled}
use Rattle.asm_line_tables.specs.Constants.{AddsOptions}
use Rattle.asm_line_tables.proofs.constants.add_options.Given as goal

abbrev pub invariant-loop-name : goal.invariant-loop-name
invariant-loop-name l = record {
  within : l.at ≤ length l.tokens;
  added : AddsOptions (map spelled l.tokens) (map spelled (drop l.at l.tokens)) l.initial.numbers l.numbers l.marks;
}

abbrev pub decreases-loop-name : goal.decreases-loop-name
decreases-loop-name l = length l.tokens - l.at
