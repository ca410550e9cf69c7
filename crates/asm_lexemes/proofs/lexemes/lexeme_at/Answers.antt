-- What the class of the first byte says stands there.
use Rattle.std.proofs.Common.{ℕ, ◌+◌, List, cond, drop, slice_index_or, ap, subst, ◌∙◌, arith}
use Rattle.std.specs.List.{prefix_len}
use Rattle.std.proofs.lemmas.List.{take_rest}
use Rattle.asm_base.specs.ByteClasses.{is_name_byte}
use Rattle.asm_base.specs.Dividing.{line_length}
use Rattle.asm_base.specs.Tokens.{is_long_operator}
use Rattle.asm_lexemes.specs.declared.classes.ByteClass.TheVariants as class
use Rattle.asm_lexemes.specs.Lexemes.{StandsInFront}
use Rattle.asm_lexemes.proofs.Lexing.{said_of, feed_stands, semicolon_stands, blank_stands, name_stands, digits_stand, strange_stands, long_stands, one_byte_operator, no_names, hash_stands, slash_by_class}
use Rattle.asm_lexemes.proofs.lexemes.lexeme_at.Goals as goal

pub by_piece-requires-clause-start : goal.by_piece-requires-clause-start
by_piece-requires-clause-start c = (no_names _ (slice_index_or c.args.source.now c.args.at 0) (omega arith) c.class_of.ensures c.in-CarriageReturn.is).0

pub by_piece-requires-clause-digit : goal.by_piece-requires-clause-digit
by_piece-requires-clause-digit c = (no_names _ (slice_index_or c.args.source.now c.args.at 0) (omega arith) c.class_of.ensures c.in-CarriageReturn.is).1

pub by_piece-requires-clause-short : goal.by_piece-requires-clause-short
by_piece-requires-clause-short c = (no_names _ (slice_index_or c.args.source.now c.args.at 0) (omega arith) c.class_of.ensures c.in-CarriageReturn.is).2

pub returns-in-LineFeed-clause-stands : goal.returns-in-LineFeed-clause-stands
returns-in-LineFeed-clause-stands c = feed_stands _ _ (said_of (slice_index_or c.args.source.now c.args.at 0) _ class.LineFeed (omega arith) c.class_of.ensures c.in-LineFeed.is)

pub returns-in-Semicolon-clause-stands : goal.returns-in-Semicolon-clause-stands
returns-in-Semicolon-clause-stands c = semicolon_stands _ _ (said_of (slice_index_or c.args.source.now c.args.at 0) _ class.Semicolon (omega arith) c.class_of.ensures c.in-Semicolon.is)

pub returns-in-Blank-clause-stands : goal.returns-in-Blank-clause-stands
returns-in-Blank-clause-stands c = blank_stands _ _ (said_of (slice_index_or c.args.source.now c.args.at 0) _ class.Blank (omega arith) c.class_of.ensures c.in-Blank.is)

pub returns-in-NameStart-clause-stands : goal.returns-in-NameStart-clause-stands
returns-in-NameStart-clause-stands c =
    name_stands _ (drop (c.args.at + 1) c.args.source.now) _ (said_of (slice_index_or c.args.source.now c.args.at 0) _ class.NameStart (omega arith) c.class_of.ensures c.in-NameStart.is) (c.name_length.ensures.value ∙ ap (prefix_len is_name_byte) (take_rest c.args.source.now (c.args.at + 1)))

pub returns-in-Digit-clause-stands : goal.returns-in-Digit-clause-stands
returns-in-Digit-clause-stands c =
    digits_stand _ (drop (c.args.at + 1) c.args.source.now) _ (said_of (slice_index_or c.args.source.now c.args.at 0) _ class.Digit (omega arith) c.class_of.ensures c.in-Digit.is) (c.number_length.ensures.value ∙ ap (prefix_len is_name_byte) (take_rest c.args.source.now (c.args.at + 1)))

pub returns-in-Dollar-clause-stands : goal.returns-in-Dollar-clause-stands
returns-in-Dollar-clause-stands c = one_byte_operator _ (slice_index_or c.args.source.now c.args.at 0) _ (omega arith) c.class_of.ensures c.in-Dollar.is

pub returns-in-LongOperator-clause-stands : goal.returns-in-LongOperator-clause-stands
returns-in-LongOperator-clause-stands c =
    long_stands _ (drop (c.args.at + 1) c.args.source.now) _ (said_of (slice_index_or c.args.source.now c.args.at 0) _ class.LongOperator (omega arith) c.class_of.ensures c.in-LongOperator.is) (c.operator_length.ensures.value ∙ ap (λ rest. cond (is_long_operator (slice_index_or c.args.source.now c.args.at 0) rest) 2 1) (take_rest c.args.source.now (c.args.at + 1)))

pub returns-in-Other-clause-stands : goal.returns-in-Other-clause-stands
returns-in-Other-clause-stands c = strange_stands _ _ (said_of (slice_index_or c.args.source.now c.args.at 0) _ class.Other (omega arith) c.class_of.ensures c.in-Other.is)

pub returns-in-Hash-clause-stands : goal.returns-in-Hash-clause-stands
returns-in-Hash-clause-stands c =
    hash_stands _ (drop (c.args.at + 1) c.args.source.now) _ (said_of (slice_index_or c.args.source.now c.args.at 0) _ class.Hash (omega arith) c.class_of.ensures c.in-Hash.is) (c.line_length.ensures.value ∙ ap line_length (take_rest c.args.source.now (c.args.at + 1)))

pub returns-in-Slash-clause-stands : goal.returns-in-Slash-clause-stands
returns-in-Slash-clause-stands c =
    let Stands : List ℕ → Type 0 = λ rest. StandsInFront 47 rest c.slash_lexeme.result in
    slash_by_class _ (drop (c.args.at + 1) c.args.source.now) _ (said_of (slice_index_or c.args.source.now c.args.at 0) _ class.Slash (omega arith) c.class_of.ensures c.in-Slash.is) (subst Stands (take_rest c.args.source.now (c.args.at + 1)) c.slash_lexeme.ensures.stands)
