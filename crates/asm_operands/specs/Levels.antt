-- How tightly operators bind, with 0 for what is none.
use Rattle.std.specs.Prelude.{ℕ, zero, suc, List, [], ◌∷◌, Option, None, Some}
use Rattle.asm_base.specs.Tokens.{SpelledToken}
use Rattle.asm_expr.specs.declared.trees.BinaryOp.{BinaryOp}
use Rattle.expr_texts.specs.Operators.{operator_byte, operator_of, level_of}
use Rattle.asm_operands.specs.declared.levels.TheConstants.{LEVELS}

-- how tightly an operator binds, and 0 where there is none
unfoldable pub level_by : Option BinaryOp → ℕ
level_by None = 0
level_by (Some op) = level_of op

-- how tightly the operator that a token is binds
abbrev pub token_level : SpelledToken → ℕ
token_level token = level_by (operator_of token)

-- the levels of so many bytes from this one on
unfoldable pub levels_from : ℕ → ℕ → List ℕ
levels_from zero byte = []
levels_from (suc n) byte = level_by (operator_byte byte) ∷ levels_from n (suc byte)

-- the table of the program
unfoldable pub the_levels : List ℕ
the_levels = LEVELS
