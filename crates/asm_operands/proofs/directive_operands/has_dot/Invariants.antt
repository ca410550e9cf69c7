-- No token so far is `.`.
use Rattle.std.proofs.Common.{◌≡◌, map, drop}
use Rattle.std.specs.List.{list_any}
use Rattle.asm_base.specs.Tokens.{spelled}
use Rattle.asm_operands.specs.Operands.{is_dot}
use Rattle.asm_operands.proofs.directive_operands.has_dot.Given as goal

abbrev pub invariant-loop-token : goal.invariant-loop-token
invariant-loop-token l = list_any is_dot (map spelled (drop l.token-index l.tokens)) ≡ list_any is_dot (map spelled l.tokens)
