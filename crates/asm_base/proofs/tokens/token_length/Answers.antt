-- That an operator of two bytes ends within the bytes.
use Rattle.std.proofs.Common.{sym, ◌∙◌, arith}
use Rattle.asm_base.proofs.ReadingTokens.{is_long_operator-followed}
use Rattle.asm_base.proofs.tokens.token_length.Goals as goal

pub returns-then-is_long_operator-clause-within : goal.returns-then-is_long_operator-clause-within
returns-then-is_long_operator-clause-within c =
    omega (arith, is_long_operator-followed c.args.first c.args.rest.now (sym c.is_long_operator.ensures ∙ c.if-is_long_operator.true))
