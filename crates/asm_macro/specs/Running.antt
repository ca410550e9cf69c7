-- What comes of the list and the placer in some turns, by what the program answers.
use Rattle.std.specs.Prelude.{◌≡◌, ℕ, ◌+◌, ◌<◌, ◌≤◌, List, ◌∷◌, Option, Result, Ok, Err}
use Rattle.asm_base.specs.Inputs.{Contents}
use Rattle.asm_lines.specs.NextStatements.{TokenStatement}
use Rattle.macro_blocks.specs.Levels.{Level, with_statements}
use Rattle.macro_blocks.specs.Frames.{level_of}
use Rattle.macro_words.specs.declared.causes.MacroCause.TheVariants.{ExpansionTooLong}
use Rattle.macro_words.specs.Conditions.{Knowledge}
use Rattle.macro_words.specs.Statements.{pos_of}
use Rattle.asm_macro.specs.declared.faults.ExpandFault.{ExpandFault}
use Rattle.asm_macro.specs.declared.faults.ExpandFault.TheVariants.{Lines, Expansion, Placing, Read, NoMemory}
use Rattle.asm_macro.specs.declared.turned.Turned.{Turned}
use Rattle.asm_macro.specs.declared.turned.Turned.TheVariants as turned
use Rattle.asm_macro.specs.Expansion.{State, under, most_given}
use Rattle.asm_macro.specs.Placing.{Step, goes, ended, fails, refused, steps}
use Rattle.asm_macro.specs.Starts.{files_of}
use Rattle.asm_macro.specs.Expanding.{Comes}
use Rattle.asm_macro.specs.Readings.{InputAs, Uses}

-- the list with this statement at its head
abbrev pub headed : TokenStatement → Level → State → State
headed s level state = under (with_statements (s ∷ level.statements) level) state

-- a statement more left the head
abbrev pub counted : State → State
counted state = record state { given = state.given + 1 }

-- this comes of the list, with that part left in front of it
abbrev pub Steps : {S F : Type 0} → Result Turned (ExpandFault F) → Step S F → Level → State → S → Type 0
Steps (Ok turned.Stays) wanted level now placer = Comes wanted (goes (under level now) placer)
Steps (Ok (turned.Enters inner)) wanted level now placer = Comes wanted (goes (under (level_of inner) (under level now)) placer)
Steps (Ok turned.Leaves) wanted level now placer = Comes wanted (goes now placer)
Steps (Err (Lines cause)) wanted level now placer = ⊥
Steps (Err (Expansion cause pos)) wanted level now placer = Comes wanted (fails now.files cause pos placer)
Steps (Err (Placing fault)) wanted level now placer = Comes wanted (refused now.files fault)
Steps (Err Read) wanted level now placer = Unit {0}
Steps (Err NoMemory) wanted level now placer = Unit {0}

-- the same, and what was read meanwhile
pub record Runs {S F : Type 0} (result : Result Turned (ExpandFault F)) (wanted : Step S F) (level : Level) (now : State) (placer : S) (old : List (List ℕ)) (before after : InputAs) : Type 0 where
  pub comes : Steps result wanted level now placer
  pub uses : Uses result (files_of wanted) old now.files before after

-- the same behind some turns of a list
abbrev pub RunsFrom : {S F : Type 0} → (S → TokenStatement → Result S F) → (S → Knowledge) → Option Contents → State → S → Result Turned (ExpandFault F) → Level → State → S → InputAs → InputAs → Type 0
RunsFrom placed told contents start placer result level now other before after =
    (n : ℕ) × Runs result (steps placed told contents n start placer) level now other start.files before after

-- a statement is handed out and placed, where not too many left the head before
abbrev pub HandsOut : {S F : Type 0} → (S → TokenStatement → Result S F) → TokenStatement → Result (Unit {0}) (ExpandFault F) → State → S → State → S → Type 0
HandsOut placed s (Ok u) before placer now after = (before.given < most_given) × (placed placer s ≡ Ok after) × (now ≡ counted before)
HandsOut placed s (Err (Lines cause)) before placer now after = ⊥
HandsOut placed s (Err (Expansion cause pos)) before placer now after =
    (most_given ≤ before.given) × (cause ≡ ExpansionTooLong) × (pos ≡ pos_of s) × (now ≡ before) × (after ≡ placer)
HandsOut placed s (Err (Placing fault)) before placer now after = (before.given < most_given) × (placed placer s ≡ Err fault) × (now ≡ before)
HandsOut placed s (Err Read) before placer now after = ⊥
HandsOut placed s (Err NoMemory) before placer now after = now ≡ before

-- the part goes on, or another stands in front of it: a statement left the head
abbrev pub Grows : Turned → ℕ → ℕ → Type 0
Grows turned.Stays old new = old < new
Grows (turned.Enters inner) old new = old < new
Grows turned.Leaves old new = old ≤ new

-- the end mark that left the list with the statements, where the part is gone
abbrev pub end_marks : Turned → ℕ
end_marks turned.Leaves = 1
end_marks _ = 0

-- another part stands in front
abbrev pub Enters : Turned → Type 0
Enters (turned.Enters inner) = Unit {0}
Enters _ = ⊥

-- the list is at its end
abbrev pub Ends : {S F : Type 0} → Result (Unit {0}) (ExpandFault F) → Step S F → List (List ℕ) → S → Type 0
Ends (Ok u) wanted files placer = Comes wanted (ended files placer)
Ends (Err (Lines cause)) wanted files placer = ⊥
Ends (Err (Expansion cause pos)) wanted files placer = Comes wanted (fails files cause pos placer)
Ends (Err (Placing fault)) wanted files placer = Comes wanted (refused files fault)
Ends (Err Read) wanted files placer = Unit {0}
Ends (Err NoMemory) wanted files placer = Unit {0}

-- the same, and what was read meanwhile
pub record Finishes {S F : Type 0} (result : Result (Unit {0}) (ExpandFault F)) (wanted : Step S F) (files : List (List ℕ)) (placer : S) (old : List (List ℕ)) (before after : InputAs) : Type 0 where
  pub comes : Ends result wanted files placer
  pub uses : Uses result (files_of wanted) old files before after

-- the same behind some turns of a list
abbrev pub Expands : {S F : Type 0} → (S → TokenStatement → Result S F) → (S → Knowledge) → Option Contents → State → S → Result (Unit {0}) (ExpandFault F) → List (List ℕ) → S → InputAs → InputAs → Type 0
Expands placed told contents start placer result files other before after =
    (n : ℕ) × Finishes result (steps placed told contents n start placer) files other start.files before after
