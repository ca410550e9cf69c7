-- Statements as expansion sees them: their labels, the word behind these, and the text of a body.
use Rattle.std.specs.Prelude.{ℕ, not, ◌&&◌, Bool, false, List, [], ◌∷◌, ◌++◌, drop, map, flat_map, if◌then◌else◌, Option, None, Some, Result, Ok, Err}
use Rattle.asm_base.specs.Tokens.{SpelledToken}
use Rattle.asm_base.specs.declared.positions.Pos.{Pos}
use Rattle.asm_lines.specs.declared.faults.LineCause.{LineCause}
use Rattle.asm_lines.specs.declared.faults.LineCause.TheVariants as lines
use Rattle.asm_lines.specs.Statements.{StatementAt, statements_of}
use Rattle.asm_lines.specs.NextStatements.{TokenStatement, in_tokens}
use Rattle.asm_operands.specs.Operands.{is_name, is_label, is_assignment}
use Rattle.macro_texts.specs.declared.causes.MacroLineCause.{MacroLineCause}
use Rattle.macro_texts.specs.declared.causes.MacroLineCause.TheVariants as macro_line
use Rattle.macro_texts.specs.TokenTexts.{text_of}
use Rattle.macro_words.specs.declared.causes.MacroCause.{MacroCause}
use Rattle.macro_words.specs.declared.causes.MacroCause.TheVariants.{NulByte, UnclosedString, UnclosedComment, StatementTooLong, BadMacroLine, MissingArgument}
use Rattle.macro_words.specs.declared.words.Word.{Word}
use Rattle.macro_words.specs.Words.{word_of, may_be_word}

-- where a statement stands
abbrev pub pos_of : TokenStatement → Pos
pos_of statement = record { file = statement.file; line = statement.line }

-- a statement with other tokens
abbrev pub with_tokens : List SpelledToken → TokenStatement → TokenStatement
with_tokens tokens statement = record { file = statement.file; line = statement.line; tokens = tokens }

-- a statement of a text that was made: it stands where that was asked for
abbrev pub standing_at : Pos → TokenStatement → TokenStatement
standing_at pos statement = record { file = pos.file; line = pos.line; tokens = statement.tokens }

-- the labels in front, and what stands behind them
abbrev pub labels_of : List SpelledToken → List SpelledToken
labels_of [] = []
labels_of (first ∷ []) = []
labels_of (first ∷ second ∷ rest) = if is_label first second then first ∷ second ∷ labels_of rest else []

-- the tokens behind the labels in front of a statement
abbrev pub behind_labels : List SpelledToken → List SpelledToken
behind_labels [] = []
behind_labels (first ∷ []) = first ∷ []
behind_labels (first ∷ second ∷ rest) = if is_label first second then behind_labels rest else (first ∷ second ∷ rest)

-- the name in front of an operand, unless it is assigned
abbrev pub named_by : List SpelledToken → Option (List ℕ)
named_by [] = None
named_by (token ∷ rest) = if is_name token && not (is_assignment rest) then Some token.bytes else None

-- the word that a name is
abbrev pub word_named : Option (List ℕ) → Option Word
word_named None = None
word_named (Some name) = word_of name

-- the first name may be that of a word
abbrev pub may_begin_with_word : List SpelledToken → Bool
may_begin_with_word [] = false
may_begin_with_word (token ∷ rest) = may_be_word token.bytes

-- the word behind the labels of a statement
unfoldable pub word_in : TokenStatement → Option Word
word_in statement = word_named (named_by (behind_labels statement.tokens))

-- what stands behind the word
abbrev pub operands_in : TokenStatement → List SpelledToken
operands_in statement = drop 1 (behind_labels statement.tokens)

-- the name that one token is
abbrev pub one_name : List SpelledToken → Result (List ℕ) MacroCause
one_name [] = Err BadMacroLine
one_name (token ∷ []) = if is_name token then Ok token.bytes else Err BadMacroLine
one_name (token ∷ next ∷ rest) = Err BadMacroLine

-- a fault of a line of a macro as one of expansion
abbrev pub raised : MacroLineCause → MacroCause
raised macro_line.BadMacroLine = BadMacroLine
raised macro_line.MissingArgument = MissingArgument

-- the text of a body: each statement's tokens on a line of their own
abbrev pub body_text : List TokenStatement → List ℕ
body_text statements = flat_map (λ statement. text_of statement.tokens ++ 10 ∷ []) statements

-- a fault of the lines, without its line
abbrev pub line_cause : LineCause → MacroCause
line_cause (lines.NulByte line) = NulByte
line_cause (lines.UnclosedString line) = UnclosedString
line_cause (lines.UnclosedComment line) = UnclosedComment
line_cause (lines.StatementTooLong line) = StatementTooLong

-- the statements of a text that was made, where it was asked for
abbrev pub made_by : Pos → Result (List StatementAt) LineCause → Result (List TokenStatement) MacroCause
made_by pos (Ok statements) = Ok (map (λ statement. standing_at pos (in_tokens statement)) statements)
made_by pos (Err cause) = Err (line_cause cause)

-- the statements of a text that was made, each standing at this place, or the fault of its lines
unfoldable pub made_statements : Pos → List ℕ → Result (List TokenStatement) MacroCause
made_statements pos text = made_by pos (statements_of 0 text)
