-- No comma stands before the place.
use Rattle.std.proofs.Common.{◌≡◌, ◌+◌, map, drop}
use Rattle.std.specs.List.{position_or_len}
use Rattle.asm_base.specs.Tokens.{spelled}
use Rattle.asm_operands.specs.Operands.{is_comma}
use Rattle.macro_texts.proofs.arguments.length_to_comma.Given as goal

abbrev pub invariant-loop-at : goal.invariant-loop-at
invariant-loop-at l = position_or_len is_comma (map spelled l.tokens) ≡ l.at + position_or_len is_comma (map spelled (drop l.at l.tokens))
