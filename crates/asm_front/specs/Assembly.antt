-- What a source stands for with the files that it starts: its object, or its first fault and where that stands, with the notes that are
-- made before.
use Rattle.std.specs.Prelude.{ℕ, ◌≤◌, Bool, List, [], ◌∷◌, drop, length, map, nat_lt, codes, is_some, if◌then◌else◌, Option, None, Some, Result, Ok, Err}
use Rattle.asm_base.specs.Inputs.{Contents}
use Rattle.asm_base.specs.declared.faults.StatementFault.{StatementFault}
use Rattle.asm_base.specs.declared.faults.StatementFault.TheVariants as statement
use Rattle.asm_base.specs.declared.faults.Fault.TheVariants.{Statement}
use Rattle.asm_base.specs.WholeFile.{most_bytes}
use Rattle.asm_lines.specs.Statements.{StatementAt, statements_of}
use Rattle.asm_lines.specs.NextStatements.{TokenStatement, in_tokens}
use Rattle.asm_lines.specs.declared.faults.LineCause.{LineCause}
use Rattle.macro_words.specs.declared.causes.MacroCause.{MacroCause}
use Rattle.macro_words.specs.declared.causes.MacroCause.TheVariants as macros
use Rattle.asm_macro.specs.Expansion.{started}
use Rattle.asm_macro.specs.Placing.{Step, goes, ended, fails, refused, misses, untold, expansion, handed, most_turns}
use Rattle.macro_words.specs.Conditions.{Knowledge}
use Rattle.asm_functions.specs.FollowedSource.{FollowedSource, nothing_followed, place_followed, placed_part, notes_of}
use Rattle.asm_place.specs.Sources.{pos_at, fault_at}
use Rattle.asm_place.specs.declared.place_faults.FaultAt.{FaultAt}
use Rattle.source_ends.specs.Ending.{Flags, followed_end}
use Rattle.asm_front.specs.Knowing.{told_by}
use Rattle.asm_front.specs.Sources.{MainSource, file, given, name_of, source_in}
use Rattle.source_ends.specs.Synthesis.{Synthesis, IsMadeAt}
use Rattle.source_ends.specs.declared.ending.NotedObject.{NotedObject}

-- what a source stands for: its object with the notes, or its first fault, or neither, where it starts a file that is not there; with the names
-- of the files that it starts as messages show them, of which one that is not there is the last
pub data Assembly : Type 0 where
  assembled : NotedObject → List (List ℕ) → Assembly
  faulty : FaultAt → List (List ℕ) → Assembly
  missing : List (List ℕ) → Assembly

-- the name of the source in messages; standard input has none of its own
abbrev pub shown_name : List ℕ → List ℕ
shown_name [] = codes "{standard input}"
shown_name (byte ∷ bytes) = byte ∷ bytes

-- the names of files as messages show them: the source is the first that was started
abbrev pub shown_files : List ℕ → List (List ℕ) → List (List ℕ)
shown_files name started = shown_name name ∷ drop 1 started

-- the source has the number 0
abbrev pub main_file : ℕ
main_file = 0

-- the fault of the source that a fault of expansion is
abbrev pub macro_fault : MacroCause → StatementFault
macro_fault macros.NulByte = statement.NulByte
macro_fault macros.UnclosedString = statement.UnclosedString
macro_fault macros.UnclosedComment = statement.UnclosedComment
macro_fault macros.StatementTooLong = statement.StatementTooLong
macro_fault macros.FileTooLarge = statement.FileTooLarge
macro_fault macros.BadExpression = statement.BadExpression
macro_fault macros.NumberTooWide = statement.NumberTooWide
macro_fault macros.ExpressionTooDeep = statement.ExpressionTooDeep
macro_fault macros.DivisionByZero = statement.DivisionByZero
macro_fault macros.ValueNotKnown = statement.ValueNotKnown
macro_fault macros.NotASumOfSymbols = statement.NotASumOfSymbols
macro_fault macros.BadMacroLine = statement.BadMacroLine
macro_fault macros.MissingArgument = statement.MissingArgument
macro_fault macros.UnclosedBlock = statement.UnclosedBlock
macro_fault macros.EndWithoutBeginning = statement.EndWithoutBeginning
macro_fault macros.NestedTooDeeply = statement.NestedTooDeeply
macro_fault macros.ExpansionTooLong = statement.ExpansionTooLong
macro_fault macros.MacroAlreadyDefined = statement.MacroAlreadyDefined
macro_fault macros.BadFileName = statement.BadFileName

-- the fault of a file that is too large, at its first line
abbrev pub too_large : ℕ → FaultAt
too_large number = fault_at (Statement statement.FileTooLarge) (pos_at number 1) []

-- functions are followed where their frame tables are to be worked out
abbrev pub is_asked : Flags → Bool
is_asked flags = is_some flags.scfi

-- nothing is placed yet
abbrev pub nothing_yet : Flags → FollowedSource
nothing_yet flags = nothing_followed flags.no_warn (is_asked flags)

-- what comes of placing one statement that is handed out
abbrev pub placed_after : FollowedSource → TokenStatement → Result FollowedSource FaultAt
placed_after before statement = place_followed statement before

-- what counts and conditions know there
abbrev pub told_of : FollowedSource → Knowledge
told_of f = told_by f.placed

-- the object of all that was placed, or the fault at the end
abbrev pub ended_by : List (List ℕ) → Result NotedObject FaultAt → Assembly
ended_by files (Ok made) = assembled made files
ended_by files (Err fault) = faulty fault files

-- what a source of this name stands for, by what comes of its statements: a fault of expansion has the notes that were made before. Each
-- list comes to its outcome, and none is untold where contents are told
abbrev pub assembly_by : Flags → List ℕ → Step FollowedSource FaultAt → Assembly
assembly_by flags name (ended files f) = ended_by (shown_files name files) (followed_end flags f)
assembly_by flags name (fails files cause pos f) = faulty (fault_at (Statement (macro_fault cause)) pos (notes_of f)) (shown_files name files)
assembly_by flags name (refused files fault) = faulty fault (shown_files name files)
assembly_by flags name (misses files) = missing (shown_files name files)
assembly_by flags name untold = missing []
assembly_by flags name (goes state f) = missing (shown_files name state.files)

-- the names of the files that a source of this assembly starts, without its own
abbrev pub included_by : Assembly → List (List ℕ)
included_by (assembled made files) = drop 1 files
included_by (faulty fault files) = drop 1 files
included_by (missing files) = drop 1 files

-- what comes of the statements of a source of this name, where contents are told or not
unfoldable pub expansion_of : Flags → Option Contents → List ℕ → List ℕ → Step FollowedSource FaultAt
expansion_of flags contents name source =
    expansion placed_after told_of contents (name ∷ []) (nothing_yet flags) (statements_of main_file source)

-- the object of a source of this name, or its first fault
unfoldable pub assembly_of : Flags → Contents → List ℕ → List ℕ → Assembly
assembly_of flags contents name source =
    if nat_lt most_bytes (length source) then faulty (too_large main_file) (shown_files name [])
    else assembly_by flags name (expansion_of flags (Some contents) name source)

-- what the file of a name stands for, where these are the contents of files
abbrev pub file_assembly : Flags → Contents → List ℕ → Option (List ℕ) → Assembly
file_assembly flags contents name (Some source) = assembly_of flags contents name source
file_assembly flags contents name None = missing (shown_name name ∷ [])

-- what a source of this name stands for by what comes of its statements, unless it starts a file of which nothing is known
abbrev pub known_by : Flags → List ℕ → Step FollowedSource FaultAt → Option Assembly
known_by flags name (ended files f) = Some (assembly_by flags name (ended files f))
known_by flags name (fails files cause pos f) = Some (assembly_by flags name (fails files cause pos f))
known_by flags name (refused files fault) = Some (assembly_by flags name (refused files fault))
known_by flags name (misses files) = Some (assembly_by flags name (misses files))
known_by flags name (goes state f) = Some (assembly_by flags name (goes state f))
known_by flags name untold = None

-- what a text that is given stands for where contents are not known, unless it starts a file
unfoldable pub given_assembly : Flags → List ℕ → Option Assembly
given_assembly flags text =
    if nat_lt most_bytes (length text) then Some (faulty (too_large main_file) (shown_files [] []))
    else known_by flags [] (expansion_of flags None [] text)

-- what a main source stands for, where that is known
abbrev pub main_assembly : Flags → Option Contents → MainSource → Option Assembly
main_assembly flags (Some contents) main = Some (file_assembly flags contents (name_of main) (source_in contents main))
main_assembly flags None (file name) = None
main_assembly flags None (given text) = given_assembly flags text

-- the statements that are handed out of these lines
abbrev pub handed_by : Flags → Contents → List ℕ → Result (List StatementAt) LineCause → List TokenStatement
handed_by flags contents name (Ok statements) =
    handed placed_after told_of (Some contents) most_turns (started (name ∷ []) (map in_tokens statements)) (nothing_yet flags)
handed_by flags contents name (Err cause) = []

-- the statements that the expansion of a source of this name hands out, in order; where functions are followed, without the directives of frame tables
unfoldable pub handed_of : Flags → Contents → List ℕ → List ℕ → List TokenStatement
handed_of flags contents name source = map (placed_part (is_asked flags)) (handed_by flags contents name (statements_of main_file source))

-- WHAT SYNTHESIS COMES TO

-- where a list comes to its end, this is what the functions come to, if they are followed
abbrev pub StepIsMade : Option Synthesis → Step FollowedSource FaultAt → Type 0
StepIsMade made (ended files f) = IsMadeAt made f
StepIsMade made _ = Unit {0}

-- the same of a source that is not too large
abbrev pub SourceIsMade : Flags → Contents → List ℕ → List ℕ → Type 0
SourceIsMade flags contents name source = length source ≤ most_bytes → StepIsMade flags.scfi (expansion_of flags (Some contents) name source)

-- the same of the file of a name, if it is there
abbrev pub FileIsMade : Flags → Contents → List ℕ → Option (List ℕ) → Type 0
FileIsMade flags contents name None = Unit {0}
FileIsMade flags contents name (Some source) = SourceIsMade flags contents name source

-- the same of a main source, where contents are known; of a text that is given also where they are not
abbrev pub IsMade : Flags → Option Contents → MainSource → Type 0
IsMade flags (Some contents) main = FileIsMade flags contents (name_of main) (source_in contents main)
IsMade flags None (file name) = Unit {0}
IsMade flags None (given text) = length text ≤ most_bytes → StepIsMade flags.scfi (expansion_of flags None [] text)
