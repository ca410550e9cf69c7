-- The statements that are left of a text, each where it stands, and those of copies that are still to come.
use Rattle.std.specs.Prelude.{ℕ, Bool, true, false, ◌&&◌, List, [], ◌∷◌, ◌++◌, map, Option, None, Some}
use Rattle.asm_base.specs.Tokens.{spelled}
use Rattle.asm_base.specs.declared.tokens.Token.{Token}
use Rattle.asm_base.specs.declared.positions.Pos.{Pos}
use Rattle.asm_lines.specs.NextStatements.{TokenStatement, in_tokens, statements_left, found_left}
use Rattle.macro_words.specs.Statements.{standing_at}
use Rattle.macro_blocks.specs.declared.places.Place.{Place}
use Rattle.macro_blocks.specs.declared.places.Place.TheVariants.{File, At}
use Rattle.macro_blocks.specs.Levels.{put_value}

-- the file of a text's statements as they are read
abbrev pub file_of : Place → ℕ
file_of (File file) = file
file_of (At pos) = 0

-- a statement of a file stands on its own line, and any other where the call or the repeat stands
abbrev pub standing : Place → TokenStatement → TokenStatement
standing (File file) statement = statement
standing (At pos) statement = standing_at pos statement

-- where a statement of this line stands
abbrev pub pos_in : Place → ℕ → Pos
pos_in (File file) line = record { file = file; line = line }
pos_in (At pos) line = pos

-- the statement that stands here and was read to these tokens
abbrev pub read_at : Pos → List Token → TokenStatement
read_at pos read = record { file = pos.file; line = pos.line; tokens = map spelled read }

-- the statements of a text from an offset on
unfoldable pub left_in : Place → List ℕ → ℕ → List TokenStatement
left_in place text at = map (standing place) (map in_tokens (statements_left (file_of place) text at))

-- those of the copies of a body for these texts of a name
abbrev pub each_left : Place → List ℕ → ℕ → List ℕ → List (List ℕ) → List TokenStatement
each_left place name number body [] = []
each_left place name number body (text ∷ texts) =
    left_in place (put_value name number body text) 0 ++ each_left place name number body texts

-- there is no fault
abbrev pub none_found : {A : Type 0} → Option A → Bool
none_found None = true
none_found (Some found) = false

-- the lines of a text have no fault from an offset on
abbrev pub is_whole : List ℕ → ℕ → Bool
is_whole text at = none_found (found_left text at)

-- nor have those of the copies of a body for these texts of a name
abbrev pub all_whole : List ℕ → ℕ → List ℕ → List (List ℕ) → Bool
all_whole name number body [] = true
all_whole name number body (text ∷ texts) =
    is_whole (put_value name number body text) 0 && all_whole name number body texts
