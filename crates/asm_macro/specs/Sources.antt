-- What a source comes to, before it is said of its definition.
use Rattle.std.specs.Prelude.{◌≡◌, List, Option, Result, Ok, Err, ℕ}
use Rattle.asm_base.specs.Inputs.{Contents}
use Rattle.asm_lines.specs.Statements.{statements_of}
use Rattle.asm_lines.specs.NextStatements.{TokenStatement, statements_left}
use Rattle.macro_words.specs.Conditions.{Knowledge}
use Rattle.asm_macro.specs.declared.faults.ExpandFault.{ExpandFault}
use Rattle.asm_macro.specs.declared.faults.ExpandFault.TheVariants.{Lines, NoMemory}
use Rattle.asm_macro.specs.Expansion.{started}
use Rattle.asm_macro.specs.Placing.{expansion}
use Rattle.asm_macro.specs.Starts.{files_of}
use Rattle.asm_macro.specs.Fronts.{rest_at}
use Rattle.asm_macro.specs.Readings.{InputAs, HasStopped}
use Rattle.asm_macro.specs.Running.{Expands}

-- the lines have no fault, and this comes of the list of the source
pub record IsListExpanded {S F : Type 0} (placed : S → TokenStatement → Result S F) (told : S → Knowledge) (contents : Option Contents) (text : List ℕ) (files : List (List ℕ)) (placer : S) (result : Result (Unit {0}) (ExpandFault F)) (names : List (List ℕ)) (after : S) (before now : InputAs) : Type 0 where
  pub lines : statements_of 0 text ≡ Ok (statements_left 0 text 0)
  pub expands : Expands placed told contents (started files (rest_at text 0)) placer result names after before now

-- the fault of the lines, or what comes of the list; memory may be refused before the lines are known
abbrev pub IsSourceExpanded : {S F : Type 0} → (S → TokenStatement → Result S F) → (S → Knowledge) → Option Contents → List ℕ → List (List ℕ) → S → Result (Unit {0}) (ExpandFault F) → List (List ℕ) → S → InputAs → InputAs → Type 0
IsSourceExpanded placed told contents text files placer (Err (Lines cause)) names after before now = (statements_of 0 text ≡ Err cause) × (names ≡ files) × (now ≡ before)
IsSourceExpanded {S} {F} placed told contents text files placer (Err NoMemory) names after before now = HasStopped {F = F} NoMemory (files_of (expansion placed told contents files placer (statements_of 0 text))) files names before now
IsSourceExpanded placed told contents text files placer result names after before now = IsListExpanded placed told contents text files placer result names after before now
