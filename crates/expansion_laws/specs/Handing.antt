-- How statements are spelled that expansion hands out.
use Rattle.std.specs.Prelude.{◌≡◌, ◌<◌, ◌^◌, ℕ, Bool, List, map, All, IfOk, Option, None, Some, Result}
use Rattle.asm_base.specs.Inputs.{Contents}
use Rattle.asm_lines.specs.Statements.{statements_of}
use Rattle.asm_lines.specs.NextStatements.{TokenStatement, in_tokens}
use Rattle.macro_words.specs.Conditions.{Knowledge}
use Rattle.asm_macro.specs.Expansion.{started}
use Rattle.asm_macro.specs.Placing.{handed}
use Rattle.asm_functions.specs.FollowedSource.{placed_part}
use Rattle.form_laws.specs.Numbers.{IsSpelled}

-- the text is bytes
abbrev pub IsBytes : List ℕ → Type 0
IsBytes text = All (λ byte. byte < 2 ^ 8) text

-- so is each file that is there
abbrev pub AreBytes : Contents → Type 0
AreBytes contents = (name source : List ℕ) → contents name ≡ Some source → IsBytes source

-- the same of contents where they are told
abbrev pub AreToldBytes : Option Contents → Type 0
AreToldBytes None = Unit {0}
AreToldBytes (Some contents) = AreBytes contents

-- of statements that are spelled in bytes, statements are handed out that are so
abbrev pub HandsSpelled : {S F : Type 0} → (S → TokenStatement → Result S F) → (S → Knowledge)
    → List (List ℕ) → List TokenStatement → Option Contents → S → Type 0
HandsSpelled placed known files statements contents placer =
    (n : ℕ) → AreToldBytes contents → All IsSpelled statements
    → All IsSpelled (handed placed known contents n (started files statements) placer)

-- so it is with the statements of a source that is bytes
abbrev pub HandsBytes : {S F : Type 0} → (S → TokenStatement → Result S F) → (S → Knowledge)
    → List (List ℕ) → Option Contents → S → Type 0
HandsBytes placed known files contents placer =
    (n file : ℕ) (source : List ℕ) → AreToldBytes contents → IsBytes source
    → IfOk (statements_of file source) (λ statements. All IsSpelled
    (handed placed known contents n (started files (map in_tokens statements)) placer))

-- what is placed of such statements is spelled in bytes, also where directives of frame tables are
-- ignored
abbrev pub PartsAreSpelled : Type 0
PartsAreSpelled = (asked : Bool) (statements : List TokenStatement) → All IsSpelled statements
    → All IsSpelled (map (placed_part asked) statements)
