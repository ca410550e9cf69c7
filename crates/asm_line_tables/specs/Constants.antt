-- A `.loc`, and a `.file` with a number, of numbers alone.
use Rattle.std.specs.Prelude.{◌≡◌, ◌^◌, ℕ, Bool, true, false, not, List, [], ◌∷◌, ◌++◌, map, Option, None, Some, Result, Ok}
use Rattle.asm_base.specs.declared.positions.Pos.{Pos}
use Rattle.asm_base.specs.Refusals.{◌>>=◌}
use Rattle.asm_base.specs.Tokens.{SpelledToken, spelled}
use Rattle.asm_expr.specs.Forms.{constant_form}
use Rattle.asm_expr.specs.Knowledge.{Knowledge}
use Rattle.asm_expr.specs.Trees.{Tree}
use Rattle.asm_operands.specs.declared.place_faults.PlaceCause.{PlaceCause}
use Rattle.asm_operands.specs.Expressions.{expression_of, form_in}
use Rattle.asm_operands.specs.Operands.{each, is_name}
use Rattle.asm_values.specs.ConstantOperands.{NamesNothing, no_naming}
use Rattle.asm_values.specs.State.{Placed}
use Rattle.line_directives.specs.declared.loc_lines.LocLine.{LocLine}
use Rattle.asm_line_tables.specs.declared.constants.FrontNumber.{FrontNumber}
use Rattle.asm_line_tables.specs.declared.words.LocMarks.{LocMarks}
use Rattle.asm_line_tables.specs.declared.words.LocNumbers.{LocNumbers}
use Rattle.asm_line_tables.specs.declared.words.LocOption.{LocOption}
use Rattle.asm_line_tables.specs.declared.words.LocOption.TheVariants.{Mark, Value}
use Rattle.asm_line_tables.specs.declared.words.LocValue.{LocValue}
use Rattle.asm_line_tables.specs.declared.words.LocValue.TheVariants.{Column}
use Rattle.asm_line_tables.specs.Numbers.{below, with_number, with_numbers}
use Rattle.asm_line_tables.specs.Parts.{front, behind_front}
use Rattle.asm_line_tables.specs.Placing.{place_loc, take_loc, take_file}
use Rattle.asm_line_tables.specs.Words.{LocWords, no_marks, with_mark, options_from, paths_of}

-- the expression at the front is this number, whatever is known, and names nothing; these tokens stand behind it
pub record IsFrontNumber (tokens behind : List SpelledToken) (value : ℕ) : Type 0 where
  pub tree : Tree
  pub reads : expression_of (front tokens) ≡ Ok tree
  pub counts : (known : Knowledge) → form_in known tree ≡ Ok (constant_form value)
  pub names : NamesNothing (tree ∷ [])
  pub rest : behind ≡ behind_front tokens

-- a number that is found is the expression at the front; where none is found nothing is said
abbrev pub FindsFrontNumber : List SpelledToken → Option FrontNumber → Type 0
FindsFrontNumber tokens (Some found) = IsFrontNumber tokens (map spelled found.behind.now) found.value
FindsFrontNumber tokens None = Unit {0}

-- the expression at the front is a number in its range, which the numbers have more; these tokens stand behind it
pub record AddsNumber (kind : LocValue) (tokens behind : List SpelledToken) (before after : LocNumbers) : Type 0 where
  pub value : ℕ
  pub one : IsFrontNumber tokens behind value
  pub added : with_number kind value before ≡ Ok after

-- a number that is found is taken over; where none is found nothing is said
abbrev pub FindsNumber : LocValue → List SpelledToken → LocNumbers → LocNumbers → Option (List SpelledToken) → Type 0
FindsNumber kind tokens before after (Some behind) = AddsNumber kind tokens behind before after
FindsNumber kind tokens before after None = Unit {0}

-- a column stands at the front
abbrev pub has_column : List SpelledToken → Bool
has_column [] = false
has_column (token ∷ rest) = not (is_name token)

-- the column is a number, or is missing
abbrev pub AddsColumn : Bool → List SpelledToken → List SpelledToken → LocNumbers → LocNumbers → Type 0
AddsColumn true tokens behind before after = AddsNumber Column tokens behind before after
AddsColumn false tokens behind before after = (behind ≡ tokens) × (after ≡ before)

-- a column that is found is taken over; where none is found nothing is said
abbrev pub FindsColumn : List SpelledToken → LocNumbers → LocNumbers → Option (List SpelledToken) → Type 0
FindsColumn tokens before after (Some behind) = AddsColumn (has_column tokens) tokens behind before after
FindsColumn tokens before after None = Unit {0}

-- the option is a mark, which the marks have more, or a number in its range, which the numbers have more; these tokens stand behind it
abbrev pub AddsOption : Option LocOption → List SpelledToken → List SpelledToken → LocNumbers → LocNumbers → LocMarks → LocMarks → Type 0
AddsOption None rest behind before after marks_before marks = ⊥
AddsOption (Some (Mark mark)) rest behind before after marks_before marks = (behind ≡ rest) × (after ≡ before) × (marks ≡ with_mark mark marks_before)
AddsOption (Some (Value kind)) rest behind before after marks_before marks = AddsNumber kind rest behind before after × (marks ≡ marks_before)

-- an option that is found is taken over; where none is found nothing is said
abbrev pub FindsOption : Option LocOption → List SpelledToken → LocNumbers → LocNumbers → LocMarks → LocMarks → Option (List SpelledToken) → Type 0
FindsOption option rest before after marks_before marks (Some behind) = AddsOption option rest behind before after marks_before marks
FindsOption option rest before after marks_before marks None = Unit {0}

-- the words with these marks and these expressions more
abbrev pub with_words : LocMarks → List LocValue → List Tree → LocWords → LocWords
with_words marks kinds trees words = record { marks = marks; kinds = words.kinds ++ kinds; trees = words.trees ++ trees }

-- the expressions are numbers in their ranges, whatever is known, and name nothing; the numbers have them more
pub record AreNumbers (kinds : List LocValue) (trees : List Tree) (before after : LocNumbers) : Type 0 where
  pub values : List ℕ
  pub counts : (known : Knowledge) → each (form_in known) trees ≡ Ok (map constant_form values)
  pub names : NamesNothing trees
  pub added : (more : List LocValue) (others : List ℕ) → with_numbers (kinds ++ more) (values ++ others) before ≡ with_numbers more others after

-- the options, up to those that are left, have these marks, and expressions that are numbers in their ranges, which the numbers have more
pub record AddsOptions (tokens left : List SpelledToken) (before after : LocNumbers) (marks : LocMarks) : Type 0 where
  pub kinds : List LocValue
  pub trees : List Tree
  pub numbers : AreNumbers kinds trees before after
  pub reads : (words : LocWords) → words.marks ≡ no_marks → options_from 0 words tokens ≡ options_from 0 (with_words marks kinds trees words) left

-- options that are found are taken over; where none are found nothing is said
abbrev pub FindsOptions : List SpelledToken → LocNumbers → LocNumbers → Option LocMarks → Type 0
FindsOptions tokens before after (Some marks) = AddsOptions tokens [] before after marks
FindsOptions tokens before after None = Unit {0}

-- the `.loc` names nothing, and is this row, whatever is known
pub record IsConstantLoc (tokens : List SpelledToken) (line : LocLine) : Type 0 where
  pub places : (pos : Pos) (placed : Placed) → place_loc pos tokens placed ≡ take_loc (no_naming placed.table) line placed

-- a row that is found is that of the `.loc`; where none is found nothing is said
abbrev pub FindsLoc : List SpelledToken → Option LocLine → Type 0
FindsLoc tokens (Some line) = IsConstantLoc tokens line
FindsLoc tokens None = Unit {0}

-- a `.file` whose number is this one, with these tokens behind it
abbrev pub place_file_number : Pos → ℕ → List SpelledToken → Placed → Result Placed PlaceCause
place_file_number pos value behind placed =
    paths_of behind >>= λ paths. below (2 ^ 16) value >>= λ number. take_file (no_naming placed.table) pos number paths.0 paths.1 placed
