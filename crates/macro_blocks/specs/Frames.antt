-- What an open file, call or repeat stands for: a part of the list; and what becomes of that.
use Rattle.std.specs.Prelude.{◌≡◌, ℕ, ◌<◌, ◌≤◌, Bool, true, false, List, [], ◌∷◌, ◌++◌, length, take, Option, None, Some}
use Rattle.asm_base.specs.declared.tokens.Token.{Token}
use Rattle.asm_base.specs.declared.positions.Pos.{Pos}
use Rattle.macro_words.specs.Statements.{pos_of, body_text}
use Rattle.macro_words.specs.Conditions.{Knowledge}
use Rattle.macro_words.specs.Branches.{verdict}
use Rattle.macro_blocks.specs.declared.blocks.Block.{Block}
use Rattle.macro_blocks.specs.declared.frames.Frame.{Frame}
use Rattle.macro_blocks.specs.declared.frames.Read.{Read}
use Rattle.macro_blocks.specs.declared.frames.Taken.{Taken}
use Rattle.macro_blocks.specs.declared.frames.Taken.TheVariants.{Statement, NextCopy, End}
use Rattle.macro_blocks.specs.declared.frames.Branch.{Branch}
use Rattle.macro_blocks.specs.Blocks.{Cut, cut_block, cut_branch}
use Rattle.macro_blocks.specs.Levels.{Level, with_statements}
use Rattle.macro_blocks.specs.Places.{read_at, left_in}
use Rattle.macro_blocks.specs.Copies.{count_left, later_of}

-- the text in which the next statement stands
abbrev pub text_in : Frame → List ℕ
text_in frame = frame.text.value

-- how many copies are to come that have a text of their own
abbrev pub copies_left : Frame → ℕ
copies_left frame = count_left frame.each

-- the part of the list that is left
unfoldable pub level_of : Frame → Level
level_of frame =
    record {
      statements = left_in frame.place frame.text.value frame.at ++ later_of frame.place frame.text.value frame.alike frame.each;
      ends = frame.ends;
      open_at = frame.«open».items;
      call_number = frame.call_number;
    }

-- all but the place in the text and the copies to come is the same
pub record IsSamePart (before now : Frame) : Type 0 where
  pub place : now.place ≡ before.place
  pub ends : now.ends ≡ before.ends
  pub opened : now.«open».items ≡ before.«open».items
  pub number : now.call_number ≡ before.call_number

-- so are the text and the copies
pub record IsSameText (before now : Frame) : Type 0 where
  pub same : IsSamePart before now
  pub text : now.text.value ≡ before.text.value
  pub alike : now.alike ≡ before.alike
  pub each : now.each ≡ before.each

-- the statement that stands next in the text is read, if one does
abbrev pub Reads : Option Read → List Token → Frame → Frame → Type 0
Reads (Some one) read before now =
    (one.count ≤ length read) × (left_in before.place before.text.value before.at ≡ read_at one.pos (take one.count read) ∷ left_in before.place before.text.value now.at)
Reads None read before now = (left_in before.place before.text.value before.at ≡ []) × (now.at ≡ before.at)

-- nothing stands before a copy that has a text of its own
pub record StandsBeforeCopy (frame : Frame) : Type 0 where
  pub more : 0 < copies_left frame
  pub statements : left_in frame.place frame.text.value frame.at ≡ []
  pub alike : frame.alike ≡ 0

-- the statement that stands next is taken off, if the text has one
abbrev pub Takes : Taken → List Token → Level → Level → Type 0
Takes (Statement pos count) read before now =
    (count ≤ length read) × (before ≡ with_statements (read_at pos (take count read) ∷ now.statements) now)
Takes NextCopy read before now = now ≡ before
Takes End read before now = (now ≡ before) × (before.statements ≡ [])

-- the part goes on behind what is cut off its front
pub record GoesBehind (found : Option Cut) (before now : Level) : Type 0 where
  pub cut : Cut
  pub is : found ≡ Some cut
  pub behind : now ≡ with_statements cut.rest before

-- the part goes on behind a block, or this is not closed
abbrev pub PassesBlock : Block → Bool → Level → Level → Type 0
PassesBlock b true before now = GoesBehind (cut_block b before.statements) before now
PassesBlock b false before now = cut_block b before.statements ≡ None

-- the same, and this is the text of what was inside
pub record TakesInside (found : Option Cut) (text : List ℕ) (before now : Level) : Type 0 where
  pub cut : Cut
  pub is : found ≡ Some cut
  pub behind : now ≡ with_statements cut.rest before
  pub inside : text ≡ body_text cut.inside

-- the text of a block is taken off, or this is not closed
abbrev pub TakesBody : Block → Option (List ℕ) → Level → Level → Type 0
TakesBody b (Some text) before now = TakesInside (cut_block b before.statements) text before now
TakesBody b None before now = cut_block b before.statements ≡ None

-- the part goes on behind the statement that ends a branch: there it stands, and that is its verdict
pub record EndsBranch (known : Knowledge) (found : Option Cut) (branch : Branch) (before now : Level) : Type 0 where
  pub cut : Cut
  pub is : found ≡ Some cut
  pub behind : now ≡ with_statements cut.rest before
  pub pos : branch.pos ≡ pos_of cut.stop
  pub verdict : verdict known cut.stop ≡ branch.verdict

-- the part goes on behind a branch that is not chosen, or this does not end
abbrev pub PassesBranch : Knowledge → Option Branch → Level → Level → Type 0
PassesBranch known (Some branch) before now = EndsBranch known (cut_branch known before.statements) branch before now
PassesBranch known None before now = cut_branch known before.statements ≡ None

-- where the outermost conditional begins that is open, if one is
abbrev pub IsOutermost : Option Pos → List Pos → Type 0
IsOutermost None open_at = open_at ≡ []
IsOutermost (Some pos) open_at = (others : List Pos) × (open_at ≡ pos ∷ others)
