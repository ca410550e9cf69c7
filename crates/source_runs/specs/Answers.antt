-- What each answer of a run promises, by what the command line stands for.
use Rattle.std.specs.Prelude.{◌≡◌, ℕ, ◌+◌, ◌*◌, ◌≤◌, List, [], ◌++◌, Bool, false, is_some, Option, None, Some, ◌⊎◌, length, take}
use Rattle.std.specs.Option.{option_map}
use Rattle.std.specs.Io.KnownBytes.{IsAtEnd}
use Rattle.asm_base.specs.Counts.{HasRisen}
use Rattle.asm_base.specs.History.{FileEvent, happened, whole_files}
use Rattle.asm_base.specs.WholeFile.{most_bytes}
use Rattle.asm_base.specs.Console.{Said, after_say}
use Rattle.asm_base.specs.Output.{Made, file, finished_file}
use Rattle.asm_base.specs.declared.outside.Channel.{Channel}
use Rattle.asm_base.specs.declared.outside.Channel.TheVariants as channel
use Rattle.asm_base.specs.declared.statuses.Status.{Status}
use Rattle.asm_base.specs.declared.statuses.Status.TheVariants.{Done, SourceFault, Usage, ReadFault, WriteFault, NoMemory}
use Rattle.asm_macro.specs.Starts.{IsFront, ReadsFront}
use Rattle.asm_front.specs.Sources as sources
use Rattle.asm_front.specs.Sources.{MainSource, started_for}
use Rattle.run_words.specs.Words.{Invocation, output_of, usage_text}
use Rattle.source_runs.specs.Outcome.{Outcome, usage, missing, refused, object}

-- what the console and the output tell before the run and after it
pub record Effects : Type 0 where
  pub said : Option Said
  pub said_after : Option Said
  pub made : Option Made
  pub made_after : Option Made

-- a front of the text was said on this channel
abbrev pub SaidFront : Channel → List ℕ → Option Said → Option Said → Type 0
SaidFront to text before after = (n : ℕ) × (n ≤ length text) × (after ≡ option_map (after_say to (take n text)) before)

-- the messages were said on standard error, and then the summary, if there is one, on standard output
abbrev pub SaidAll : List ℕ → Option (List ℕ) → Option Said → Option Said → Type 0
SaidAll messages None before after = after ≡ option_map (after_say channel.Err messages) before
SaidAll messages (Some summary) before after = after ≡ option_map (after_say channel.Out summary) (option_map (after_say channel.Err messages) before)

-- a front of the messages was said, or all of them and a front of the summary
abbrev pub SaidInPart : List ℕ → Option (List ℕ) → Option Said → Option Said → Type 0
SaidInPart messages None before after = SaidFront channel.Err messages before after
SaidInPart messages (Some summary) before after =
    SaidFront channel.Err messages before after ⊎ SaidFront channel.Out summary (option_map (after_say channel.Err messages) before) after

-- the text was said on standard error
abbrev pub Says : List ℕ → Effects → Type 0
Says text e = e.said_after ≡ option_map (after_say channel.Err text) e.said

-- a front of the text was said
abbrev pub SaysFront : List ℕ → Effects → Type 0
SaysFront text e = SaidFront channel.Err text e.said e.said_after

-- nothing was said on either channel
abbrev pub SaysNothing : Effects → Type 0
SaysNothing e = e.said_after ≡ e.said

-- the output is as it was
abbrev pub MakesNothing : Effects → Type 0
MakesNothing e = e.made_after ≡ e.made

-- console and output are as they were
abbrev pub LeavesAll : Effects → Type 0
LeavesAll e = SaysNothing e × MakesNothing e

-- the file of this name was made, and is finished
abbrev pub MakesFile : List ℕ → List ℕ → Option Made → Option Made → Type 0
MakesFile name bytes before after = after ≡ option_map (λ _. finished_file name bytes) before

-- the file of this name was begun with a front of the bytes, and is not finished
abbrev pub BeginsFile : List ℕ → List ℕ → Option Made → Option Made → Type 0
BeginsFile name bytes before after =
    (n : ℕ) × (n ≤ length bytes) × (after ≡ option_map (λ _. file (record { name = name; bytes = take n bytes; finished = false })) before)

-- no file was made, or one was begun
abbrev pub MakesFileInPart : List ℕ → List ℕ → Option Made → Option Made → Type 0
MakesFileInPart name bytes before after = (after ≡ before) ⊎ BeginsFile name bytes before after

-- the text was said, and no file was made
abbrev pub Refuses : List ℕ → Effects → Type 0
Refuses text e = Says text e × MakesNothing e

-- a front of the text was said, and no file was made
abbrev pub RefusesInPart : List ℕ → Effects → Type 0
RefusesInPart text e = SaysFront text e × MakesNothing e

-- the messages and the summary were said, and the file was made
abbrev pub MakesObject : (name bytes messages : List ℕ) (summary : Option (List ℕ)) → Effects → Type 0
MakesObject name bytes messages summary e = SaidAll messages summary e.said e.said_after × MakesFile name bytes e.made e.made_after

-- a front of what is to be said was said and no file was made, or all was said and the file was begun
abbrev pub MakesInPart : (name bytes messages : List ℕ) (summary : Option (List ℕ)) → Effects → Type 0
MakesInPart name bytes messages summary e =
    (SaidInPart messages summary e.said e.said_after × MakesNothing e)
    ⊎ (SaidAll messages summary e.said e.said_after × BeginsFile name bytes e.made e.made_after)

-- a command asks for a summary where it asks for a source that is made
abbrev pub is_summed : Option Invocation → Bool
is_summed None = false
is_summed (Some invocation) = is_some invocation.self_load

-- what `Done` promises: the object of the outcome was made; where that is not known, some object under the name of the words, with a summary if they ask
-- for one
abbrev pub IsDone : Option Invocation → Option Outcome → Effects → Type 0
IsDone command None e =
    (bytes messages : List ℕ) × (summary : Option (List ℕ)) × (is_some summary ≡ is_summed command) × MakesObject (output_of command) bytes messages summary e
IsDone command (Some usage) e = ⊥
IsDone command (Some (missing included)) e = ⊥
IsDone command (Some (refused messages included)) e = ⊥
IsDone command (Some (object name bytes messages summary included)) e = MakesObject name bytes messages summary e

-- what `SourceFault` promises: the outcome is a refusal, and its messages were said
abbrev pub IsSourceFault : Option Outcome → Effects → Type 0
IsSourceFault None e = (messages : List ℕ) × Refuses messages e
IsSourceFault (Some usage) e = ⊥
IsSourceFault (Some (missing included)) e = ⊥
IsSourceFault (Some (refused messages included)) e = Refuses messages e
IsSourceFault (Some (object name bytes messages summary included)) e = ⊥

-- what `Usage` promises: the words are no command, and the usage text was said
abbrev pub IsUsage : Option Outcome → Effects → Type 0
IsUsage None e = ⊥
IsUsage (Some usage) e = Refuses usage_text e
IsUsage (Some (missing included)) e = ⊥
IsUsage (Some (refused messages included)) e = ⊥
IsUsage (Some (object name bytes messages summary included)) e = ⊥

-- what `ReadFault` promises: the words are a command, and nothing was said or made
abbrev pub IsReadFault : Option Outcome → Effects → Type 0
IsReadFault None e = LeavesAll e
IsReadFault (Some usage) e = ⊥
IsReadFault (Some (missing included)) e = LeavesAll e
IsReadFault (Some (refused messages included)) e = LeavesAll e
IsReadFault (Some (object name bytes messages summary included)) e = LeavesAll e

-- what `WriteFault` promises: of messages, summary and object there are fronts, in their order
abbrev pub IsWriteFault : Option Invocation → Option Outcome → Effects → Type 0
IsWriteFault command None e =
    (bytes messages : List ℕ) × (summary : Option (List ℕ)) × (is_some summary ≡ is_summed command) × MakesInPart (output_of command) bytes messages summary e
IsWriteFault command (Some usage) e = RefusesInPart usage_text e
IsWriteFault command (Some (missing included)) e = ⊥
IsWriteFault command (Some (refused messages included)) e = RefusesInPart messages e
IsWriteFault command (Some (object name bytes messages summary included)) e = MakesInPart name bytes messages summary e

-- what `NoMemory` promises: nothing was said or made
abbrev pub IsNoMemory : Option Outcome → Effects → Type 0
IsNoMemory None e = LeavesAll e
IsNoMemory (Some usage) e = LeavesAll e
IsNoMemory (Some (missing included)) e = LeavesAll e
IsNoMemory (Some (refused messages included)) e = LeavesAll e
IsNoMemory (Some (object name bytes messages summary included)) e = LeavesAll e

-- what the status promises of a command and of what it stands for, where that is known
abbrev pub Answers : Option Invocation → Option Outcome → Status → Effects → Type 0
Answers command outcome Done e = IsDone command outcome e
Answers command outcome SourceFault e = IsSourceFault outcome e
Answers command outcome Usage e = IsUsage outcome e
Answers command outcome ReadFault e = IsReadFault outcome e
Answers command outcome WriteFault e = IsWriteFault command outcome e
Answers command outcome NoMemory e = IsNoMemory outcome e

-- the count of starts of what has no contents is as before, but for a missing file
abbrev pub CountsMissingOutcome : Option Outcome → ℕ → ℕ → Type 0
CountsMissingOutcome None before now = before ≤ now
CountsMissingOutcome (Some usage) before now = now ≡ before
CountsMissingOutcome (Some (missing included)) before now = ((before ≤ now) × HasRisen before now) ⊎ (now ≡ before)
CountsMissingOutcome (Some (refused messages included)) before now = now ≡ before
CountsMissingOutcome (Some (object name bytes messages summary included)) before now = now ≡ before

-- where the outcome is told, these are the files that the source starts
abbrev pub IncludesThese : Option Outcome → List (List ℕ) → Type 0
IncludesThese None these = Unit {0}
IncludesThese (Some usage) these = ⊥
IncludesThese (Some (missing included)) these = ⊥
IncludesThese (Some (refused messages included)) these = ⊥
IncludesThese (Some (object name bytes messages summary included)) these = these ≡ included

-- where the outcome is told, these are the first of the files that are started for the main source and of those that this starts, and none where the words are
-- no command
abbrev pub StartsThese : Option Outcome → MainSource → List (List ℕ) → Type 0
StartsThese None main these = (others : List (List ℕ)) × IsFront these (started_for main ++ others)
StartsThese (Some usage) main these = these ≡ []
StartsThese (Some (missing included)) main these = IsFront these (started_for main ++ included)
StartsThese (Some (refused messages included)) main these = IsFront these (started_for main ++ included)
StartsThese (Some (object output bytes messages summary included)) main these = IsFront these (started_for main ++ included)

-- what every status promises of files: the first of the file of the main source, if it comes from one, and of the files that it starts were read one after the
-- other, the last of these perhaps in part, and nothing else was; of each at most one byte more than the most was taken
pub record StartsFront (outcome : Option Outcome) (main : MainSource) (before now : Option (List FileEvent)) (taken taken_after : ℕ) : Type 0 where
  pub started : List (List ℕ)
  pub these : StartsThese outcome main started
  pub reads : ReadsFront started before now taken taken_after

-- what `Done` promises of files: the file of the main source, if it comes from one, and each file that it starts were read to their end, one after the other,
-- and nothing else was; of each at most one byte more than the most was taken
pub record ReadsAll (outcome : Option Outcome) (main : MainSource) (before now : Option (List FileEvent)) (taken taken_after : ℕ) : Type 0 where
  pub included : List (List ℕ)
  pub these : IncludesThese outcome included
  pub history : now ≡ happened before (whole_files (started_for main ++ included))
  pub at_most : taken_after ≤ taken + (most_bytes + 1) * length (started_for main ++ included)

-- the file that was started last is at its end; where the main source is no file, none may have been started
abbrev pub ReadsToEnd : MainSource → Option (List ℕ) → Option (List ℕ) → Type 0
ReadsToEnd (sources.file name) before now = IsAtEnd now
ReadsToEnd (sources.given text) before now = IsAtEnd before → IsAtEnd now
