-- No expression begins before the place.
use Rattle.std.proofs.Common.{◌≡◌, ◌+◌, map, drop}
use Rattle.asm_base.specs.Tokens.{spelled}
use Rattle.asm_line_tables.specs.Parts.{going_on}
use Rattle.asm_line_tables.proofs.parts.going_on.Given as goal

abbrev pub invariant-loop-index : goal.invariant-loop-index
invariant-loop-index l =
    going_on (spelled l.first) (map spelled l.rest) ≡ l.index + going_on (spelled l.before) (map spelled (drop l.index l.rest))
