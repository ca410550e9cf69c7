-- The open parts of the program as the list that they stand for, and what becomes of its head.
use Rattle.std.specs.Prelude.{◌≡◌, ◌≢◌, ◌⊎◌, ℕ, ◌+◌, ◌≤◌, Option, vec_len, List, [], ◌∷◌, ◌++◌, Bool, true, false, None, Some, Result, Ok, Err}
use Rattle.asm_base.specs.declared.positions.Pos.{Pos}
use Rattle.asm_base.specs.declared.refusals.Refusal.{Refusal}
use Rattle.asm_base.specs.declared.refusals.Refusal.TheVariants.{Fault, NoMemory}
use Rattle.macro_texts.specs.declared.causes.MacroLineCause.{MacroLineCause}
use Rattle.macro_blocks.specs.declared.frames.Frame.{Frame}
use Rattle.macro_blocks.specs.Frames.{level_of}
use Rattle.macro_blocks.specs.Levels.{Level, level_with}
use Rattle.macro_blocks.specs.declared.blocks.Ending.TheVariants as ending
use Rattle.asm_lines.specs.NextStatements.{TokenStatement}
use Rattle.macro_words.specs.Files.{FileFault}
use Rattle.macro_words.specs.declared.causes.MacroCause.{MacroCause}
use Rattle.macro_words.specs.declared.causes.MacroCause.TheVariants.{FileTooLarge}
use Rattle.macro_words.specs.Statements.{raised}
use Rattle.asm_macro.specs.declared.faults.ExpandFault.{ExpandFault}
use Rattle.asm_macro.specs.declared.faults.ExpandFault.TheVariants.{Lines, Expansion, Placing, Read}
use Rattle.asm_macro.specs.declared.faults.ExpandFault.TheVariants as outer
use Rattle.asm_macro.specs.declared.expander.Expander.{Expander}
use Rattle.asm_macro.specs.declared.turned.MacroFault.{MacroFault}
use Rattle.asm_macro.specs.declared.turned.Turned.{Turned}
use Rattle.asm_macro.specs.declared.turned.Turned.TheVariants as turned
use Rattle.asm_macro.specs.Expansion.{State, Turn, goes, fails, breaks, untold, under, after_call}
use Rattle.asm_macro.specs.OpenParts.{AreFew, levels_of}
use Rattle.asm_macro.specs.Placing.{in_next_file}

-- the list that the program has
abbrev pub state_of : Expander → State
state_of e =
    record { levels = levels_of e.frames.items; macros = e.macros; begun = e.begun; given = e.given; files = e.files }

-- the fault of this cause stands at this place
abbrev pub StandsAt : Pos → MacroCause → Refusal MacroFault → Type 0
StandsAt pos cause (Fault fault) = (fault.cause ≡ cause) × (fault.pos ≡ pos)
StandsAt pos cause NoMemory = Unit {0}

-- the fault of a refusal stands at this place
abbrev pub Stands : Pos → Refusal MacroCause → Refusal MacroFault → Type 0
Stands pos (Fault cause) got = StandsAt pos cause got
Stands pos NoMemory got = got ≡ NoMemory

-- the fault of a line of a macro stands at this place
abbrev pub StandsRaised : Pos → Refusal MacroLineCause → Refusal MacroFault → Type 0
StandsRaised pos (Fault cause) got = StandsAt pos (raised cause) got
StandsRaised pos NoMemory got = got ≡ NoMemory

-- this becomes of the head, with that part left in front of the list
abbrev pub IsTurn : Result Turned (Refusal MacroFault) → Turn → Level → State → Type 0
IsTurn (Ok turned.Stays) wanted level now = wanted ≡ goes (under level now)
IsTurn (Ok (turned.Enters inner)) wanted level now = wanted ≡ goes (under (level_of inner) (under level now))
IsTurn (Ok turned.Leaves) wanted level now = wanted ≡ goes now
IsTurn (Err (Fault fault)) wanted level now = wanted ≡ fails fault.cause fault.pos
IsTurn (Err NoMemory) wanted level now = Unit {0}

-- what stands behind the innermost call, if there is one
abbrev pub LeavesCall : Bool → List Level → List Level → Type 0
LeavesCall true before now = after_call before ≡ Some now
LeavesCall false before now = after_call before ≡ None

-- no statement left the head, no file was started, and no part came
pub record KeepsCounts (before now : Expander) : Type 0 where
  pub given : now.given ≡ before.given
  pub files : now.files ≡ before.files
  pub parts : vec_len now.frames ≤ vec_len before.frames

-- a refusal as a fault of the whole expansion
abbrev pub IsWhole : {F : Type 0} → Result Turned (Refusal MacroFault) → Result Turned (ExpandFault F) → Type 0
IsWhole (Ok turned) got = got ≡ Ok turned
IsWhole (Err (Fault fault)) got = (got ≡ Err (Expansion fault.cause fault.pos)) × (fault.cause ≢ FileTooLarge)
IsWhole (Err NoMemory) got = got ≡ Err outer.NoMemory

-- this becomes of the head, unless nothing is told of it
abbrev pub Becomes : Turn → Turn → Type 0
Becomes wanted got = (wanted ≡ got) ⊎ (wanted ≡ untold)

-- the fault that becomes of the head, and the names of the files that were started then
abbrev pub FailsSo : Turn → List (List ℕ) → MacroCause → Pos → List (List ℕ) → Type 0
FailsSo (fails cause pos) old c p new = (cause ≡ c) × (pos ≡ p) × (new ≡ old)
FailsSo (breaks name fault) old c p new = (fault.cause ≡ c) × (in_next_file old fault.line ≡ p) × (new ≡ old ++ name ∷ [])
FailsSo untold old c p new = Unit {0}
FailsSo _ old c p new = ⊥

-- this becomes of the head, with that part left in front of the list
abbrev pub IsRewriting : {F : Type 0} → Result Turned (ExpandFault F) → Turn → Level → List (List ℕ) → State → Type 0
IsRewriting (Ok turned.Stays) wanted level old now = Becomes wanted (goes (under level now))
IsRewriting (Ok (turned.Enters inner)) wanted level old now = Becomes wanted (goes (under (level_of inner) (under level now)))
IsRewriting (Ok turned.Leaves) wanted level old now = Becomes wanted (goes now)
IsRewriting (Err (Lines cause)) wanted level old now = ⊥
IsRewriting (Err (Expansion cause pos)) wanted level old now = FailsSo wanted old cause pos now.files
IsRewriting (Err (Placing fault)) wanted level old now = ⊥
IsRewriting (Err Read) wanted level old now = Unit {0}
IsRewriting (Err outer.NoMemory) wanted level old now = Unit {0}

-- a file that was read is started in the call of this number, if in one, or its lines have a fault
abbrev pub IsOpened : {F : Type 0} → Result Turned (ExpandFault F) → Option ℕ → ℕ → Result (List TokenStatement) FileFault → Type 0
IsOpened (Ok (turned.Enters inner)) number file due = (statements : List TokenStatement) × (due ≡ Ok statements) × (level_of inner ≡ level_with number ending.File statements)
IsOpened (Err (Expansion cause pos)) number file due = (due ≡ Err (record { cause = cause; line = pos.line })) × (pos.file ≡ file)
IsOpened (Err outer.NoMemory) number file due = Unit {0}
IsOpened _ number file due = ⊥

-- the part in front is taken off the list, if one is left
abbrev pub TakesPart : Option Frame → State → State → Type 0
TakesPart None before now = (before.levels ≡ []) × (now ≡ before)
TakesPart (Some frame) before now = before ≡ under (level_of frame) now

-- one is taken away, or there is none
abbrev pub TakesOne : Option Frame → ℕ → ℕ → Type 0
TakesOne None before now = now ≡ before
TakesOne (Some frame) before now = before ≡ now + 1

-- few parts are open behind an answer, with that part left in front of these
abbrev pub LeavesFew : {E : Type 0} → Result Turned E → Level → List Level → Type 0
LeavesFew (Ok turned.Stays) level below = AreFew (level ∷ below)
LeavesFew (Ok (turned.Enters inner)) level below = AreFew (level_of inner ∷ level ∷ below)
LeavesFew (Ok turned.Leaves) level below = AreFew below
LeavesFew (Err e) level below = Unit {0}

-- the same where few were open before
abbrev pub KeepsFew : {E : Type 0} → Level → State → Result Turned E → Level → State → Type 0
KeepsFew before old result level now = AreFew (before ∷ old.levels) → LeavesFew result level now.levels

-- a file stands in front, or there is a fault
abbrev pub EntersFile : {E : Type 0} → Result Turned E → Type 0
EntersFile (Ok (turned.Enters inner)) = (level_of inner).ends ≡ ending.File
EntersFile (Ok _) = ⊥
EntersFile (Err e) = Unit {0}
