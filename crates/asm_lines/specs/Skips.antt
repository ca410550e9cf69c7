-- What stands between statements.
use Rattle.std.specs.Prelude.{◌≡◌, ℕ, ◌<◌, ◌≤◌, true, List, ◌∷◌, length, drop, Option, Some, None, ◌⊎◌}
use Rattle.asm_base.specs.Dividing.{piece_kind}
use Rattle.asm_lines.specs.declared.faults.Found.{Found}
use Rattle.asm_lines.specs.declared.cursors.Point.{Point}
use Rattle.asm_lines.specs.declared.cursors.NextPassed.{NextPassed}
use Rattle.asm_lines.specs.declared.cursors.NextPassed.TheVariants.{Statement, End, Faulty}
use Rattle.asm_lines.specs.LineNumbers.{line_of}
use Rattle.asm_lexemes.specs.Lexemes.{makes_tokens}
use Rattle.asm_lines.specs.NextStatements.{statements_left, found_left}

-- the first byte of a token stands at this offset
pub record BeginsToken (source : List ℕ) (at : ℕ) : Type 0 where
  pub first : ℕ
  pub rest : List ℕ
  pub front : drop at source ≡ first ∷ rest
  pub makes : makes_tokens (piece_kind first rest) ≡ true

-- between the offset and the point stands no statement and no fault
pub record IsSkipped (source : List ℕ) (from : ℕ) (to : Point) : Type 0 where
  pub statements : (file : ℕ) → statements_left file source to.at ≡ statements_left file source from
  pub faults : found_left source to.at ≡ found_left source from
  pub line : to.line ≡ line_of source to.at
  pub within : to.at ≤ length source
  pub later : from ≤ to.at

-- the point is that of the first token from the offset on, or the end of the source
pub record Reaches (source : List ℕ) (from : ℕ) (to : Point) : Type 0 where
  pub skipped : IsSkipped source from to
  pub begins : (length source ≤ to.at) ⊎ BeginsToken source to.at

-- what stands between statements is passed, or something in it does not close
abbrev pub Skips : List ℕ → ℕ → Option Point → Type 0
Skips source from (Some to) = Reaches source from to
Skips source from None = (found : Found) × (found_left source from ≡ Some found)

-- from the offset on, the first fault of the lines is the first behind the point
pub record HasSameFaults (source : List ℕ) (from : ℕ) (to : Point) : Type 0 where
  pub faults : found_left source from ≡ found_left source to.at
  pub line : to.line ≡ line_of source to.at
  pub within : to.at ≤ length source
  pub more : from < to.at

-- the offset up to which what stands next is passed
abbrev pub passed_up_to : List ℕ → NextPassed → ℕ
passed_up_to source (Statement to) = to.at
passed_up_to source End = length source
passed_up_to source Faulty = length source

-- what stands next is passed, and no fault with it; or nothing is left, or the lines have a fault
abbrev pub PassesNext : List ℕ → ℕ → NextPassed → Type 0
PassesNext source from (Statement to) = HasSameFaults source from to
PassesNext source from End = found_left source from ≡ None
PassesNext source from Faulty = (found : Found) × (found_left source from ≡ Some found)
