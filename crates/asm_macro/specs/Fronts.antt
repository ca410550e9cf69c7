-- The statements of a source before its first word of expansion, which are placed one after the other.
use Rattle.std.specs.Prelude.{◌≡◌, ◌≢◌, ℕ, ◌+◌, ◌≤◌, List, [], ◌∷◌, length, map, Option, None, Result, Ok, Err}
use Rattle.asm_base.specs.Inputs.{Contents}
use Rattle.asm_base.specs.declared.refusals.Refusal.TheVariants as refusal
use Rattle.asm_lines.specs.LineNumbers.{line_of}
use Rattle.asm_lines.specs.Statements.{statements_of}
use Rattle.asm_lines.specs.NextStatements.{TokenStatement, HasNoLineFault, in_tokens, statements_left, found_left}
use Rattle.macro_blocks.specs.Levels.{level_with}
use Rattle.macro_blocks.specs.declared.blocks.Ending.TheVariants as ending
use Rattle.macro_words.specs.declared.causes.MacroCause.TheVariants.{ExpansionTooLong}
use Rattle.macro_words.specs.Conditions.{Knowledge}
use Rattle.asm_macro.specs.declared.faults.ExpandFault.{ExpandFault}
use Rattle.asm_macro.specs.declared.faults.ExpandFault.TheVariants.{Lines, NoMemory}
use Rattle.asm_macro.specs.declared.fronts.Stop.{Stop}
use Rattle.asm_macro.specs.declared.fronts.Stop.TheVariants as stop
use Rattle.asm_macro.specs.Expansion.{State, started, most_given}
use Rattle.asm_macro.specs.Placing.{Step, goes, ended, fails, refused, steps}

-- the statements of a source from an offset on
abbrev pub rest_at : List ℕ → ℕ → List TokenStatement
rest_at source at = map in_tokens (statements_left 0 source at)

-- the list of a source without macros, of which so many statements left the head
abbrev pub plain : List (List ℕ) → ℕ → List TokenStatement → State
plain files given statements =
    record { levels = level_with None ending.File statements ∷ []; macros = []; begun = 0; given = given; files = files }

-- so many turns of the source lead there, whatever is told of files
abbrev pub LeadsTo : {S F : Type 0} → (S → TokenStatement → Result S F) → (S → Knowledge) → List ℕ → S → ℕ → (List (List ℕ) → Step S F) → Type 0
LeadsTo placed told source placer n there =
    (contents : Option Contents) → (files : List (List ℕ)) → steps placed told contents n (started files (rest_at source 0)) placer ≡ there files

-- the front of the source up to this offset, on this line, is placed
pub record IsPlaced {S F : Type 0} (placed : S → TokenStatement → Result S F) (told : S → Knowledge) (source : List ℕ) (placer after : S) (at line given : ℕ) : Type 0 where
  pub leads : LeadsTo placed told source placer given (λ files. goes (plain files given (rest_at source at)) after)
  pub faults : found_left source at ≡ found_left source 0
  pub line_there : line ≡ line_of source at
  pub within : at ≤ length source
  pub few : given ≤ most_given

-- why placing the front stopped
abbrev pub StopsAt : {S F : Type 0} → (S → TokenStatement → Result S F) → (S → Knowledge) → List ℕ → S → S → Stop F → Type 0
StopsAt placed told source placer after stop.End =
    (n : ℕ) × LeadsTo placed told source placer n (λ files. ended files after) × (found_left source 0 ≡ None)
StopsAt placed told source placer after (stop.Word at line given) = IsPlaced placed told source placer after at line given
StopsAt placed told source placer after (stop.TooLong line) =
    (n : ℕ) × LeadsTo placed told source placer n (λ files. fails files ExpansionTooLong (record { file = 0; line = line }) after)
StopsAt placed told source placer after (stop.Refused (refusal.Fault fault)) =
    (n : ℕ) × LeadsTo placed told source placer n (λ files. refused files fault)
StopsAt placed told source placer after (stop.Refused refusal.NoMemory) = Unit {0}
StopsAt placed told source placer after stop.Faulty = found_left source 0 ≢ None
StopsAt placed told source placer after stop.NoMemory = Unit {0}

-- the most turns of the list up to where placing stopped
abbrev pub most_turned : {F : Type 0} → Stop F → ℕ
most_turned (stop.Word at line given) = given
most_turned _ = most_given + 1

-- the lines of a source have no fault, or this is the first
abbrev pub ChecksLines : {F : Type 0} → List ℕ → Result (Unit {0}) (ExpandFault F) → Type 0
ChecksLines text (Ok u) = HasNoLineFault 0 text
ChecksLines text (Err (Lines cause)) = statements_of 0 text ≡ Err cause
ChecksLines text (Err NoMemory) = Unit {0}
ChecksLines text _ = ⊥
