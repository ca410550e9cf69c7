-- A slash begins a comment or is an operator.
use Rattle.std.proofs.Common.{sym, ◌∙◌, refl}
use Rattle.asm_base.specs.ByteClasses.{is_name_start}
use Rattle.asm_lexemes.specs.Classes.{begins_long_operator}
use Rattle.asm_lexemes.proofs.Lexing.{slash_stands}
use Rattle.asm_lexemes.proofs.lexemes.slash_lexeme.Goals as goal

pub by_piece-requires-clause-start : goal.by_piece-requires-clause-start
unfolding is_name_start
by_piece-requires-clause-start c = refl

pub by_piece-requires-clause-short : goal.by_piece-requires-clause-short
unfolding begins_long_operator
by_piece-requires-clause-short c = refl

pub returns-else-begins_comment-clause-stands : goal.returns-else-begins_comment-clause-stands
returns-else-begins_comment-clause-stands c = slash_stands c.args.rest.now (sym c.begins_comment.ensures ∙ c.if-begins_comment.false)
