-- A token that is one piece.
use Rattle.std.proofs.Common.{sym, subst}
use Rattle.asm_base.specs.declared.tokens.TokenKind.{TokenKind}
use Rattle.asm_lexemes.specs.declared.lexemes.Lexeme.TheVariants.{Token}
use Rattle.asm_lexemes.specs.Lexemes.{StandsInFront}
use Rattle.asm_lexemes.proofs.Lexing.{character_stands, string_stands, mark_stands}
use Rattle.asm_lexemes.proofs.lexemes.by_piece.Goals as goal

pub returns-in-Character-clause-stands : goal.returns-in-Character-clause-stands
returns-in-Character-clause-stands c = character_stands _ _ _ _ c.first_piece-piece.ensures.kind c.first_piece-piece.ensures.length c.in-Character.is c.requires.start c.requires.digit

pub returns-in-String-clause-stands : goal.returns-in-String-clause-stands
returns-in-String-clause-stands c = string_stands _ _ _ _ c.first_piece-piece.ensures.kind c.first_piece-piece.ensures.length c.in-String.is c.requires.start c.requires.digit

pub returns-in-Other-clause-stands : goal.returns-in-Other-clause-stands
returns-in-Other-clause-stands c =
    let first = c.args.first in
    let known = mark_stands first c.args.rest.now _ c.first_piece-piece.ensures.kind c.in-Other.is c.requires.short c.requires.start c.requires.digit in
    let Is : TokenKind → Type 0 = λ kind. StandsInFront first c.args.rest.now (Token kind 1) in
    subst Is (sym c.mark_kind.ensures) known
