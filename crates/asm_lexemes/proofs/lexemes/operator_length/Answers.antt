-- An operator of two bytes has a byte behind its first one.
use Rattle.std.proofs.Common.{◌≡◌, ◌≤◌, ℕ, true, List, [], ◌∷◌, length, sym, ◌∙◌, arith}
use Rattle.asm_base.specs.Tokens.{is_long_operator}
use Rattle.asm_lexemes.proofs.lexemes.operator_length.Goals as goal

byte_behind : (first : ℕ) (rest : List ℕ) → is_long_operator first rest ≡ true → 1 ≤ length rest
unfolding is_long_operator
byte_behind first [] long = cc
byte_behind first (second ∷ rest) long = omega arith

pub returns-then-is_long_operator-clause-within : goal.returns-then-is_long_operator-clause-within
returns-then-is_long_operator-clause-within c = omega (arith, byte_behind c.args.first c.args.rest.now (sym c.is_long_operator.ensures ∙ c.if-is_long_operator.true))
