-- What a command line stands for.
use Rattle.std.specs.Prelude.{ℕ, List, drop, length, Option, None, Some, if◌then◌else◌}
use Rattle.std.specs.Option.{option_map}
use Rattle.asm_base.specs.Inputs.{Contents}
use Rattle.asm_base.specs.Messages.{remarks, refusal}
use Rattle.source_ends.specs.Ending.{Flags}
use Rattle.asm_base.specs.declared.statuses.Status.{Status}
use Rattle.asm_base.specs.declared.statuses.Status.TheVariants.{Done, SourceFault, Usage, ReadFault, WriteFault, NoMemory}
use Rattle.source_ends.specs.Synthesis.{Synthesis}
use Rattle.asm_front.specs.Sources.{MainSource, file, given}
use Rattle.asm_front.specs.Assembly.{Assembly, assembled, faulty, main_assembly, IsMade}
use Rattle.asm_front.specs.Assembly as assembly
use Rattle.load_text.specs.Load.{load_text}
use Rattle.run_words.specs.Words.{Invocation}
use Rattle.source_runs.specs.Summary.{summary_by}

-- what a command line stands for
pub data Outcome : Type 0 where
  -- the words are no command
  usage : Outcome
  -- of the source and these files, which are started, the last has no contents
  missing : (included : List (List ℕ)) → Outcome
  -- the source has a fault, and starts these files
  refused : (messages : List ℕ) (included : List (List ℕ)) → Outcome
  -- the source has an object, of which a summary may be said, and starts these files
  object : (name bytes messages : List ℕ) (summary : Option (List ℕ)) (included : List (List ℕ)) → Outcome

-- what the invocation asks of the assembly, where synthesis, if it is asked for, comes to this
abbrev pub flags_by : Invocation → Synthesis → Flags
flags_by invocation made = record {
  no_warn = invocation.no_warn;
  fatal_warnings = invocation.fatal_warnings;
  scfi = if invocation.scfi then Some made else None;
}

-- what a source of this assembly stands for
abbrev pub source_outcome : Invocation → Assembly → Outcome
source_outcome invocation (assembled made files) =
    object invocation.object made.object (remarks files made.notes) (summary_by invocation.self_load made.counts (length made.object)) (drop 1 files)
source_outcome invocation (faulty first files) = refused (refusal files first.notes first.fault first.pos) (drop 1 files)
source_outcome invocation (assembly.missing files) = missing (drop 1 files)

-- the source that is made of a number of functions, or else the file of this name
abbrev pub main_by : (self_load : Option ℕ) → List ℕ → MainSource
main_by None name = file name
main_by (Some functions) name = given (load_text functions)

-- the main source of an invocation
abbrev pub main_of_invocation : Invocation → MainSource
main_of_invocation invocation = main_by invocation.self_load invocation.file

-- what the invocation stands for, where that is known
abbrev pub invocation_outcome : Invocation → Synthesis → Option Contents → Option Outcome
invocation_outcome invocation made contents =
    option_map (source_outcome invocation) (main_assembly (flags_by invocation made) contents (main_of_invocation invocation))

-- what the words stand for, where they are a command and where they are none
abbrev pub command_outcome : Option Invocation → Synthesis → Option Contents → Option Outcome
command_outcome None made contents = Some usage
command_outcome (Some invocation) made contents = invocation_outcome invocation made contents

-- WHAT SYNTHESIS COMES TO

-- synthesis comes to this for the source that a command names, if it is asked for and the source comes to its end
abbrev pub CommandIsMade : Option Invocation → Option Contents → Synthesis → Type 0
CommandIsMade None contents made = Unit {0}
CommandIsMade (Some invocation) contents made = IsMade (flags_by invocation made) contents (main_of_invocation invocation)

-- this holds of what a command stands for, with what synthesis comes to; where the input failed or memory ran out it is not known to what that would be, and this
-- holds with all
abbrev pub CommandHolds : Option Invocation → Option Contents → Status → (Synthesis → Option Outcome → Type 0) → Type 0
CommandHolds command contents ReadFault Holds = (made : Synthesis) → Holds made (command_outcome command made contents)
CommandHolds command contents NoMemory Holds = (made : Synthesis) → Holds made (command_outcome command made contents)
CommandHolds command contents Done Holds = (made : Synthesis) × CommandIsMade command contents made × Holds made (command_outcome command made contents)
CommandHolds command contents SourceFault Holds = (made : Synthesis) × CommandIsMade command contents made × Holds made (command_outcome command made contents)
CommandHolds command contents Usage Holds = (made : Synthesis) × CommandIsMade command contents made × Holds made (command_outcome command made contents)
CommandHolds command contents WriteFault Holds = (made : Synthesis) × CommandIsMade command contents made × Holds made (command_outcome command made contents)
