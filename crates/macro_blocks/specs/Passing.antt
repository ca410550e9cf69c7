-- Searches through what is left of open files, calls and repeats.
use Rattle.std.specs.Prelude.{◌≡◌, ℕ, List, Option, None, Some}
use Rattle.asm_lines.specs.NextStatements.{TokenStatement}
use Rattle.macro_words.specs.Statements.{pos_of, word_in, operands_in}
use Rattle.macro_blocks.specs.declared.frames.Branch.{Branch}
use Rattle.macro_blocks.specs.declared.frames.Frame.{Frame}
use Rattle.macro_blocks.specs.declared.searching.Search.{Search}
use Rattle.macro_blocks.specs.declared.searching.Sought.{Sought}
use Rattle.macro_blocks.specs.declared.searching.Sought.TheVariants as sought
use Rattle.macro_blocks.specs.Places.{left_in}
use Rattle.macro_blocks.specs.Searches.{Verdict, verdict_by, found_by, PassesAll, PassesUpTo}
use Rattle.macro_blocks.specs.Frames.{level_of}

-- a search in these statements ends at one that stands here and has this verdict, with this rest behind it
pub record EndsBefore (verdict : Verdict) (before after : Search) (statements rest : List TokenStatement) (branch : Branch) : Type 0 where
  pub statement : TokenStatement
  pub found : found_by verdict before statements ≡ Some (record { text = after.text.items; stop = statement; rest = rest })
  pub pos : branch.pos ≡ pos_of statement
  pub answers : verdict_by before.block verdict (word_in statement) (operands_in statement) ≡ branch.verdict

-- a search in these statements ends so, or nowhere
abbrev pub EndsIn : Verdict → Search → Search → List TokenStatement → List TokenStatement → Option Branch → Type 0
EndsIn verdict before after statements rest (Some branch) = EndsBefore verdict before after statements rest branch
EndsIn verdict before after statements rest None = found_by verdict before statements ≡ None

-- the text in which the next statement stands is searched up to an offset
abbrev pub PassesText : Verdict → ℕ → Search → Search → Frame → Frame → Sought → Type 0
PassesText verdict until before after frame now (sought.Stopped stop) =
    EndsBefore verdict before after (level_of frame).statements (level_of now).statements (record { pos = stop.pos; verdict = stop.verdict })
PassesText verdict until before after frame now sought.Limit =
    PassesUpTo verdict frame.place frame.text.value frame.at until before after
PassesText verdict until before after frame now sought.End =
    PassesAll verdict before after (left_in frame.place frame.text.value frame.at)

-- the search ends in that text, or goes on behind all that is left of it
abbrev pub PassesWhole : Verdict → Search → Search → Frame → Frame → Option Branch → Type 0
PassesWhole verdict before after frame now (Some branch) =
    EndsBefore verdict before after (level_of frame).statements (level_of now).statements branch
PassesWhole verdict before after frame now None =
    PassesAll verdict before after (left_in frame.place frame.text.value frame.at)

-- the search began before the statements from an offset of the text on, and passed those
pub record BeganAt (verdict : Verdict) (frame : Frame) (start : ℕ) (now : Search) : Type 0 where
  pub first : Search
  pub none_open : first.deep ≡ 0
  pub passed : PassesAll verdict first now (left_in frame.place frame.text.value start)
