-- Looking at the lines of texts that are made.
use Rattle.std.specs.Prelude.{◌≡◌, ℕ, true, List, Result, Ok, Err}
use Rattle.asm_base.specs.declared.refusals.Refusal.{Refusal}
use Rattle.asm_base.specs.declared.positions.Pos.{Pos}
use Rattle.asm_base.specs.Refusals.{Fails}
use Rattle.asm_lines.specs.NextStatements.{HasNoLineFault}
use Rattle.macro_words.specs.declared.causes.MacroCause.{MacroCause}
use Rattle.macro_words.specs.Statements.{made_statements}
use Rattle.macro_blocks.specs.declared.places.Place.TheVariants.{At}
use Rattle.macro_blocks.specs.Levels.{each_copy}
use Rattle.macro_blocks.specs.Places.{each_left, all_whole}

-- the lines of a text have no fault, or this one
abbrev pub ChecksText : List ℕ → Result (Unit {0}) (Refusal MacroCause) → Type 0
ChecksText text (Ok u) = HasNoLineFault 0 text
ChecksText text (Err refusal) = (pos : Pos) → Fails refusal (made_statements pos text)

-- the copies of a body for these texts of a name are made
pub record AreMade (name : List ℕ) (number : ℕ) (body : List ℕ) (values : List (List ℕ)) : Type 0 where
  pub whole : all_whole name number body values ≡ true
  pub made : (pos : Pos) → each_copy pos name number body values ≡ Ok (each_left (At pos) name number body values)

-- the lines of the copies have no fault, or the first that has one has this
abbrev pub ChecksCopies : List ℕ → ℕ → List ℕ → List (List ℕ) → Result (Unit {0}) (Refusal MacroCause) → Type 0
ChecksCopies name number body values (Ok u) = AreMade name number body values
ChecksCopies name number body values (Err refusal) = (pos : Pos) → Fails refusal (each_copy pos name number body values)
