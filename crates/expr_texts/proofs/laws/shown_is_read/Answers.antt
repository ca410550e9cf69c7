-- A string has one value, which the layer below tells.
use Rattle.expr_texts.proofs.ShownIsRead.{shown_is_read}
use Rattle.expr_texts.proofs.GoodTokens.{read_is_shown}
use Rattle.expr_texts.proofs.laws.shown_is_read.Goals as goal

pub returns-clause-tree : goal.returns-clause-tree
returns-clause-tree c = shown_is_read c.one_value.ensures.only

pub returns-clause-statement : goal.returns-clause-statement
returns-clause-statement c = read_is_shown c.one_value.ensures.only
