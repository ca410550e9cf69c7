-- Every text is divided into its pieces, and in no other way.
use Rattle.asm_lines.proofs.TokenLists.{only_tokens, some_tokens}
use Rattle.asm_lines.proofs.laws.one_list_of_tokens.Goals as goal

pub returns-clause-some : goal.returns-clause-some
returns-clause-some c = some_tokens (record { some = c.one_division.ensures.some; only = c.one_division.ensures.only })

pub returns-clause-only : goal.returns-clause-only
returns-clause-only c = only_tokens (record { some = c.one_division.ensures.some; only = c.one_division.ensures.only })
