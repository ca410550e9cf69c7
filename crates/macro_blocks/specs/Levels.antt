-- A part of the list of expansion: the statements up to an end mark, and how copies make them.
use Rattle.std.specs.Prelude.{ℕ, ◌-◌, List, [], ◌∷◌, ◌++◌, length, take, Option, Result, Ok}
use Rattle.asm_base.specs.Refusals.{◌>>=◌}
use Rattle.asm_base.specs.declared.positions.Pos.{Pos}
use Rattle.asm_lines.specs.NextStatements.{TokenStatement}
use Rattle.macro_texts.specs.Putting.{put}
use Rattle.macro_words.specs.declared.causes.MacroCause.{MacroCause}
use Rattle.macro_words.specs.Statements.{made_statements}
use Rattle.macro_blocks.specs.declared.blocks.Ending.{Ending}
use Rattle.macro_blocks.specs.Blocks.{repeated}

-- a part of the list: the statements up to an end mark, what this ends, where the chosen conditionals begin that are open in it,
-- outermost first, and the number of the innermost call that it stands in, if it stands in one
pub record Level : Type 0 where
  pub statements : List TokenStatement
  pub ends : Ending
  pub open_at : List Pos
  pub call_number : Option ℕ

-- the part with these statements left
abbrev pub with_statements : List TokenStatement → Level → Level
with_statements statements level = record level { statements = statements }

-- the part with these conditionals open
abbrev pub with_open : List Pos → Level → Level
with_open open_at level = record level { open_at = open_at }

-- where the outermost block begins that is open: a conditional's, or else the one that begins here
abbrev pub first_open : Pos → List Pos → Pos
first_open pos [] = pos
first_open pos (first ∷ others) = first

-- without the innermost open conditional
abbrev pub but_last : List Pos → List Pos
but_last open_at = take (length open_at - 1) open_at

-- a part of these statements in the call of this number, if it stands in one; no conditional is open in it
abbrev pub level_with : Option ℕ → Ending → List TokenStatement → Level
level_with number ends statements =
    record { statements = statements; ends = ends; open_at = []; call_number = number }

-- a part of the statements that were made, or their fault
abbrev pub entered : Option ℕ → Ending → Result (List TokenStatement) MacroCause → Result Level MacroCause
entered number ends made = made >>= λ statements. Ok (level_with number ends statements)

-- so many copies of what was made
abbrev pub copies_of : ℕ → Result (List TokenStatement) MacroCause → Result (List TokenStatement) MacroCause
copies_of count made = made >>= λ statements. Ok (repeated count statements)

-- a body with this text in place of a name, and this number in place of `\@`
abbrev pub put_value : List ℕ → ℕ → List ℕ → List ℕ → List ℕ
put_value name number body text = put (record { name = name; text = text } ∷ []) number body

-- a copy of a body for each of these texts of a name
abbrev pub each_copy : Pos → List ℕ → ℕ → List ℕ → List (List ℕ) → Result (List TokenStatement) MacroCause
each_copy pos name number body [] = Ok []
each_copy pos name number body (text ∷ texts) =
    made_statements pos (put_value name number body text) >>= λ first.
    each_copy pos name number body texts >>= λ others. Ok (first ++ others)
