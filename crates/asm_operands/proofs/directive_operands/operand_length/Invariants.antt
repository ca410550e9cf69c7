-- No comma stands before the place.
use Rattle.std.proofs.Common.{◌≡◌, ◌+◌, map, drop}
use Rattle.std.specs.List.{position_or_len}
use Rattle.asm_base.specs.Tokens.{spelled}
use Rattle.asm_operands.specs.Operands.{is_comma}
use Rattle.asm_operands.proofs.directive_operands.operand_length.Given as goal

abbrev pub invariant-loop-at : goal.invariant-loop-at
invariant-loop-at l = position_or_len is_comma (map spelled l.tokens) ≡ l.at + position_or_len is_comma (map spelled (drop l.at l.tokens))
