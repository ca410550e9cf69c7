-- What each answer of a run promises, by what the command line stands for.
use Rattle.std.specs.Prelude.{◌≡◌, ℕ, ◌+◌, ◌≤◌, min, List, Bool, true, false, Option, None, Some, Result, Ok, Err, ◌⊎◌, length}
use Rattle.asm_base.specs.Console.{Said}
use Rattle.asm_base.specs.Counts.{HasRisen, last_count}
use Rattle.asm_base.specs.History.{FileEvent, HappensInFront, happened, whole_file}
use Rattle.asm_base.specs.Inputs.{Contents, CountsMissing}
use Rattle.asm_base.specs.WholeFile.{most_bytes}
use Rattle.asm_base.specs.declared.outside.Channel.TheVariants as channel
use Rattle.asm_base.specs.declared.statuses.Status.{Status}
use Rattle.asm_base.specs.declared.statuses.Status.TheVariants.{Done, SourceFault, Usage, ReadFault, WriteFault, NoMemory}
use Rattle.x86_decode.specs.declared.fronts.Front.{Front}
use Rattle.dis_words.specs.Words.{Invocation, usage_text}
use Rattle.dis_run.specs.Outcome.{Outcome, usage, missing, refused, listed}
use Rattle.dis_run.specs.Saying.{Says, SaysFront, SaysLines, SaysLinesInPart}

-- the texts of instructions in AT&T syntax, or in Intel syntax
abbrev pub text_for : (att intel : Front → List ℕ) → Bool → Front → List ℕ
text_for att intel true = intel
text_for att intel false = att

-- what `Done` promises: the listing was said
abbrev pub IsDone : (att intel : Front → List ℕ) → Outcome → Option Said → Option Said → Type 0
IsDone att intel usage before after = ⊥
IsDone att intel missing before after = ⊥
IsDone att intel (refused message) before after = ⊥
IsDone att intel (listed flag bytes) before after = SaysLines (text_for att intel flag) bytes 0 (length bytes) before after

-- what `SourceFault` promises: the file is too large, and that was said
abbrev pub IsSourceFault : Outcome → Option Said → Option Said → Type 0
IsSourceFault usage before after = ⊥
IsSourceFault missing before after = ⊥
IsSourceFault (refused message) before after = Says channel.Err message before after
IsSourceFault (listed flag bytes) before after = ⊥

-- what `Usage` promises: the words are no command, and the usage text was said
abbrev pub IsUsage : Outcome → Option Said → Option Said → Type 0
IsUsage usage before after = Says channel.Err usage_text before after
IsUsage missing before after = ⊥
IsUsage (refused message) before after = ⊥
IsUsage (listed flag bytes) before after = ⊥

-- what `ReadFault` promises: the words are a command, and nothing was said
abbrev pub IsReadFault : Outcome → Option Said → Option Said → Type 0
IsReadFault usage before after = ⊥
IsReadFault missing before after = after ≡ before
IsReadFault (refused message) before after = after ≡ before
IsReadFault (listed flag bytes) before after = after ≡ before

-- what `WriteFault` promises: a front of what is to be said was said
abbrev pub IsWriteFault : (att intel : Front → List ℕ) → Outcome → Option Said → Option Said → Type 0
IsWriteFault att intel usage before after = SaysFront channel.Err usage_text before after
IsWriteFault att intel missing before after = ⊥
IsWriteFault att intel (refused message) before after = SaysFront channel.Err message before after
IsWriteFault att intel (listed flag bytes) before after = SaysLinesInPart (text_for att intel flag) bytes 0 before after

-- what `NoMemory` promises: nothing was said, or a front of the listing was
abbrev pub IsNoMemory : (att intel : Front → List ℕ) → Outcome → Option Said → Option Said → Type 0
IsNoMemory att intel usage before after = after ≡ before
IsNoMemory att intel missing before after = after ≡ before
IsNoMemory att intel (refused message) before after = after ≡ before
IsNoMemory att intel (listed flag bytes) before after = SaysLinesInPart (text_for att intel flag) bytes 0 before after

-- what the status promises of what the command line stands for, by what was said before the run and after it
abbrev pub Answers : (att intel : Front → List ℕ) → Outcome → Status → Option Said → Option Said → Type 0
Answers att intel outcome Done before after = IsDone att intel outcome before after
Answers att intel outcome SourceFault before after = IsSourceFault outcome before after
Answers att intel outcome Usage before after = IsUsage outcome before after
Answers att intel outcome ReadFault before after = IsReadFault outcome before after
Answers att intel outcome WriteFault before after = IsWriteFault att intel outcome before after
Answers att intel outcome NoMemory before after = IsNoMemory att intel outcome before after

-- what the status promises of a listing in this syntax
abbrev pub IsListed : (text : Front → List ℕ) → List ℕ → Status → Option Said → Option Said → Type 0
IsListed text bytes Done before after = SaysLines text bytes 0 (length bytes) before after
IsListed text bytes SourceFault before after = ⊥
IsListed text bytes Usage before after = ⊥
IsListed text bytes ReadFault before after = ⊥
IsListed text bytes WriteFault before after = SaysLinesInPart text bytes 0 before after
IsListed text bytes NoMemory before after = SaysLinesInPart text bytes 0 before after

-- the status where no call fails: that of what the command line stands for, or want of memory
abbrev pub Completes : Outcome → Status → Type 0
Completes usage status = (status ≡ Usage) ⊎ (status ≡ NoMemory)
Completes missing status = status ≡ NoMemory
Completes (refused message) status = (status ≡ SourceFault) ⊎ (status ≡ NoMemory)
Completes (listed flag bytes) status = (status ≡ Done) ⊎ (status ≡ NoMemory)

-- the count of starts of what has no contents rises at most for the file of the command
abbrev pub CountsMissingFile : Option Invocation → Option Contents → ℕ → ℕ → Type 0
CountsMissingFile None contents before now = now ≡ before
CountsMissingFile (Some invocation) contents before now = (now ≡ before) ⊎ CountsMissing contents invocation.file before now

-- the file of the command was started and read to its end, and nothing else was
abbrev pub ReadsWhole : Option Invocation → Option (List FileEvent) → Option (List FileEvent) → Type 0
ReadsWhole None before now = ⊥
ReadsWhole (Some invocation) before now = now ≡ happened before (whole_file invocation.file)

-- no file but that of the command was started
abbrev pub StartsFile : Option Invocation → Option (List FileEvent) → Option (List FileEvent) → Type 0
StartsFile None before now = now ≡ before
StartsFile (Some invocation) before now = HappensInFront (whole_file invocation.file) before now

-- more bytes were taken than a file may have, or the count is at its greatest number
abbrev pub TakesTooMuch : ℕ → ℕ → Type 0
TakesTooMuch before now = min (before + (most_bytes + 1)) last_count ≤ now
