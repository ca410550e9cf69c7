-- The search for the statement that ends a block or a branch, as it goes on from statement to statement.
use Rattle.std.specs.Prelude.{◌≡◌, ℕ, ◌≤◌, ◌==◌, ◌&&◌, Bool, true, false, if◌then◌else◌, List, [], ◌∷◌, ◌++◌, length, Option, None, Some, Result, Ok}
use Rattle.asm_base.specs.Tokens.{SpelledToken}
use Rattle.asm_lines.specs.LineNumbers.{line_of}
use Rattle.asm_lines.specs.NextStatements.{TokenStatement}
use Rattle.macro_texts.specs.TokenTexts.{text_of}
use Rattle.macro_words.specs.declared.causes.MacroCause.{MacroCause}
use Rattle.macro_words.specs.declared.words.Word.{Word}
use Rattle.macro_words.specs.Statements.{pos_of, word_in, operands_in}
use Rattle.macro_words.specs.Branches.{is_not_false}
use Rattle.macro_blocks.specs.declared.blocks.Block.{Block}
use Rattle.macro_blocks.specs.declared.places.Place.{Place}
use Rattle.macro_blocks.specs.declared.searching.Search.{Search}
use Rattle.macro_blocks.specs.declared.searching.Stop.{Stop}
use Rattle.macro_blocks.specs.declared.searching.Sought.{Sought}
use Rattle.macro_blocks.specs.declared.searching.Sought.TheVariants as sought
use Rattle.macro_blocks.specs.Blocks.{ends, of_word, depth_by, depth_behind, stops}
use Rattle.macro_blocks.specs.Places.{left_in, is_whole}

-- whether a branch that is chosen begins at a statement of this word with these operands, or its fault
abbrev pub Verdict : Type 0
Verdict = Option Word → List SpelledToken → Result Bool MacroCause

-- the end of the block begins no branch
abbrev pub verdict_by : Block → Verdict → Verdict
verdict_by b verdict one operands = if of_word (ends b) one then Ok false else verdict one operands

-- the search ends at the end of the block, and where a branch begins that is not known false
abbrev pub stops_by : Block → Verdict → Option Word → List SpelledToken → Bool
stops_by b verdict one operands = if of_word (ends b) one then true else is_not_false (verdict one operands)

-- the same of a statement
abbrev pub stops_at : Block → Verdict → TokenStatement → Bool
stops_at b verdict statement = stops_by b verdict (word_in statement) (operands_in statement)

-- what a statement of this word, if it has one, is to the search: it goes on, or ends with this verdict
abbrev pub StopsBy : Block → Verdict → Option Word → List SpelledToken → Option (Result Bool MacroCause) → Type 0
StopsBy b verdict one operands None = stops_by b verdict one operands ≡ false
StopsBy b verdict one operands (Some answer) =
    (stops_by b verdict one operands ≡ true) × (verdict_by b verdict one operands ≡ answer)

-- the same where further blocks may be open, in which no search ends
abbrev pub EndsBy : Search → Verdict → Option Word → List SpelledToken → Option (Result Bool MacroCause) → Type 0
EndsBy search verdict one operands None = (search.deep == 0 && stops_by search.block verdict one operands) ≡ false
EndsBy search verdict one operands (Some answer) =
    (search.deep ≡ 0) × StopsBy search.block verdict one operands (Some answer)

-- the text with a statement more on a line of its own, where it is kept
abbrev pub kept_with : Bool → List ℕ → List SpelledToken → List ℕ
kept_with keeps text tokens = if keeps then text ++ (text_of tokens ++ 10 ∷ []) else text

-- a statement of this word and these tokens is passed
pub record IsPassed (before after : Search) (one : Option Word) (tokens : List SpelledToken) : Type 0 where
  pub deep : after.deep ≡ depth_by before.block before.deep one
  pub text : after.text.items ≡ kept_with before.keeps before.text.items tokens
  pub block : after.block ≡ before.block
  pub keeps : after.keeps ≡ before.keeps

-- where a search ends: the text of what it passed, the statement, and what stands behind that
pub record FoundAs : Type 0 where
  pub text : List ℕ
  pub stop : TokenStatement
  pub rest : List TokenStatement

-- where the search ends from here on, so many further blocks being open and this text being kept
unfoldable pub found_from : Block → (TokenStatement → Bool) → Bool → ℕ → List ℕ → List TokenStatement → Option FoundAs
found_from b stop keeps deep text [] = None
found_from b stop keeps deep text (statement ∷ rest) =
    if stops stop deep statement then Some (record { text = text; stop = statement; rest = rest })
    else found_from b stop keeps (depth_behind b deep statement) (kept_with keeps text statement.tokens) rest

-- the same of a search of the program
abbrev pub found_by : Verdict → Search → List TokenStatement → Option FoundAs
found_by verdict search statements =
    found_from search.block (stops_at search.block verdict) search.keeps search.deep search.text.items statements

-- the search ends at this statement, with this verdict
pub record EndsAt (verdict : Verdict) (before after : Search) (statement : TokenStatement) (answer : Result Bool MacroCause) : Type 0 where
  pub found : (rest : List TokenStatement)
      → found_by verdict before (statement ∷ rest) ≡ Some (record { text = after.text.items; stop = statement; rest = rest })
  pub answers : verdict_by before.block verdict (word_in statement) (operands_in statement) ≡ answer

-- a statement of these tokens is passed, or the search ends there
abbrev pub PassesOne : Verdict → Search → Search → List SpelledToken → Option (Result Bool MacroCause) → Type 0
PassesOne verdict before after tokens None =
    (statement : TokenStatement) → statement.tokens ≡ tokens → (rest : List TokenStatement)
    → found_by verdict before (statement ∷ rest) ≡ found_by verdict after rest
PassesOne verdict before after tokens (Some answer) =
    (statement : TokenStatement) → statement.tokens ≡ tokens → EndsAt verdict before after statement answer

-- the search ends at a statement of a text, behind which it goes on here
pub record StopsIn (verdict : Verdict) (place : Place) (text : List ℕ) (from : ℕ) (before after : Search) (stop : Stop) : Type 0 where
  pub statement : TokenStatement
  pub found : (ys : List TokenStatement)
      → found_by verdict before (left_in place text from ++ ys)
      ≡ Some (record { text = after.text.items; stop = statement; rest = left_in place text stop.at ++ ys })
  pub pos : stop.pos ≡ pos_of statement
  pub answers : verdict_by before.block verdict (word_in statement) (operands_in statement) ≡ stop.verdict
  pub within : stop.at ≤ length text
  pub line : stop.line ≡ line_of text stop.at
  pub whole : is_whole text stop.at ≡ true

-- these statements are passed
abbrev pub PassesAll : Verdict → Search → Search → List TokenStatement → Type 0
PassesAll verdict before after statements =
    (ys : List TokenStatement) → found_by verdict before (statements ++ ys) ≡ found_by verdict after ys

-- the statements up to an offset are passed
pub record PassesUpTo (verdict : Verdict) (place : Place) (text : List ℕ) (from until : ℕ) (before after : Search) : Type 0 where
  pub front : List TokenStatement
  pub cut : left_in place text from ≡ front ++ left_in place text until
  pub passed : PassesAll verdict before after front

-- the offset up to which a search of a text looked that was to end at another
abbrev pub sought_up_to : List ℕ → ℕ → Sought → ℕ
sought_up_to text until (sought.Stopped stop) = stop.at
sought_up_to text until sought.Limit = until
sought_up_to text until sought.End = length text

-- a text is searched from one offset up to another: the search ends in it, or reaches the offset, or the text's end
abbrev pub Seeks : Verdict → Place → List ℕ → ℕ → ℕ → Search → Search → Sought → Type 0
Seeks verdict place text from until before after (sought.Stopped stop) = StopsIn verdict place text from before after stop
Seeks verdict place text from until before after sought.Limit = PassesUpTo verdict place text from until before after
Seeks verdict place text from until before after sought.End = PassesAll verdict before after (left_in place text from)
