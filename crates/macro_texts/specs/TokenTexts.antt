-- The text of tokens: white space and comments between two of them become one space (GNU as manual, section 3.1, "Preprocessing").
use Rattle.std.specs.Prelude.{ℕ, ◌+◌, ◌==◌, Bool, true, false, List, [], ◌∷◌, ◌++◌, length, map, if◌then◌else◌}
use Rattle.asm_base.specs.Tokens.{SpelledToken, spelled}
use Rattle.asm_base.specs.declared.tokens.TokenKind.{TokenKind}
use Rattle.asm_base.specs.declared.tokens.TokenKind.TheVariants.{String}
use Rattle.expr_texts.specs.Leaves.{between_quotes}
use Rattle.macro_texts.specs.declared.token_texts.Value.{Value}
use Rattle.macro_texts.specs.declared.token_texts.Value.TheVariants.{Bytes, Tokens}

-- the token stands right behind the one before it
abbrev pub follows : SpelledToken → SpelledToken → Bool
follows before token = token.start == before.start + length before.bytes

-- one space, unless the token stands right behind the one before it
abbrev pub space_between : SpelledToken → SpelledToken → List ℕ
space_between before token = if follows before token then [] else 32 ∷ []

-- the text of tokens behind the one before them
abbrev pub text_behind : SpelledToken → List SpelledToken → List ℕ
text_behind before [] = []
text_behind before (token ∷ rest) = (space_between before token ++ token.bytes) ++ text_behind token rest

-- the text of tokens
abbrev pub text_of : List SpelledToken → List ℕ
text_of [] = []
text_of (token ∷ rest) = token.bytes ++ text_behind token rest

-- the text of tokens, without the first of them
abbrev pub text_left : List SpelledToken → List ℕ
text_left [] = []
text_left (before ∷ rest) = text_behind before rest

-- the class of strings
abbrev pub is_string_kind : TokenKind → Bool
is_string_kind String = true
is_string_kind _ = false

-- what a token stands for that is a value: a string for what is between its quotes
abbrev pub lone_text : SpelledToken → List ℕ
lone_text token = if is_string_kind token.kind then between_quotes token.bytes else token.bytes

-- what an argument, a default or a value stands for: its text, or what is between the quotes where it is one string
unfoldable pub value_text : List SpelledToken → List ℕ
value_text [] = []
value_text (token ∷ []) = lone_text token
value_text (token ∷ next ∷ rest) = text_of (token ∷ next ∷ rest)

-- the text of a value of the program
abbrev pub value_seen : Value → List ℕ
value_seen (Bytes bytes) = bytes.now
value_seen (Tokens tokens) = text_of (map spelled tokens.now)
