-- What a run does is what a command stands for, with what synthesis comes to.
use Rattle.std.proofs.Common.{◌≡◌, ℕ, List, Option, None, Some, Result, Ok, Err, length, refl, ap, ◌∙◌, subst, cond}
use Rattle.std.specs.Option.{option_map}
use Rattle.asm_base.specs.History.{FileEvent}
use Rattle.asm_base.specs.Inputs.{Contents}
use Rattle.asm_base.specs.Messages.{refusal, remarks}
use Rattle.asm_base.specs.declared.faults.Fault.{Fault}
use Rattle.asm_base.specs.declared.notes.Noted.{Noted}
use Rattle.asm_base.specs.declared.positions.Pos.{Pos}
use Rattle.asm_base.specs.declared.statuses.Status.TheVariants.{Done, SourceFault, ReadFault, WriteFault, NoMemory}
use Rattle.source_ends.specs.Synthesis.{Synthesis}
use Rattle.source_ends.specs.Ending.{Flags}
use Rattle.asm_front.specs.Sources.{MainSource, main_of, name_of}
use Rattle.asm_front.specs.Assembly.{Assembly, assembled, faulty, main_assembly, IsMade}
use Rattle.asm_front.specs.Assembly as assembly
use Rattle.asm_front.specs.Answering.{AnswersFile}
use Rattle.asm_front.specs.Fitting.{SourceIsReadable}
use Rattle.asm_front.specs.Outcome.{Assembles, AssemblesKnown, CountsMisses, NamesFiles, ReadsFiles, StartsFiles, StopsAtEnd, TakesFiles, flags_of}
use Rattle.asm_front.specs.declared.answers.Options.{Options}
use Rattle.asm_front.specs.declared.answers.Assembled.{Assembled}
use Rattle.asm_front.specs.declared.answers.AsmFault.{AsmFault}
use Rattle.asm_front.specs.declared.answers.AsmFault.TheVariants.{Source}
use Rattle.run_words.specs.Words.{Invocation}
use Rattle.source_runs.specs.Summary.{summary_by}
use Rattle.source_runs.specs.Outcome.{Outcome, usage, missing, refused, object, flags_by, main_of_invocation, source_outcome, invocation_outcome, command_outcome, CommandIsMade, CommandHolds}
use Rattle.source_runs.specs.Answers.{Effects, LeavesAll, MakesObject, MakesInPart, Refuses, RefusesInPart, Answers, IsReadFault, IsNoMemory, CountsMissingOutcome, ReadsAll, ReadsToEnd, StartsFront}
use Rattle.source_runs.specs.Readable.{InvocationIsReadable}
use Rattle.source_runs.proofs.Deliveries.{delivered, made_in_part, refused_in_part, refused_whole}
use Rattle.source_runs.proofs.ReadableObjects.{object_found}
use Rattle.source_runs.proofs.StartedFiles.{all_read, missed, starts_front, stopped}

-- NOTHING WAS SAID OR MADE

read_of : (invocation : Invocation) (known : Option Assembly) (e : Effects) → LeavesAll e → IsReadFault (option_map (source_outcome invocation) known) e
read_of invocation None e leaves = leaves
read_of invocation (Some (assembled made files)) e leaves = leaves
read_of invocation (Some (faulty first files)) e leaves = leaves
read_of invocation (Some (assembly.missing files)) e leaves = leaves

-- the input failed
pub read_lost : (invocation : Invocation) (contents : Option Contents) (e : Effects) → LeavesAll e
    → CommandHolds (Some invocation) contents ReadFault (λ made outcome. Answers (Some invocation) outcome ReadFault e)
read_lost invocation contents e leaves = λ held. read_of invocation (main_assembly (flags_by invocation held) contents (main_of_invocation invocation)) e leaves

memory_of : (outcome : Option Outcome) (e : Effects) → LeavesAll e → IsNoMemory outcome e
memory_of None e leaves = leaves
memory_of (Some usage) e leaves = leaves
memory_of (Some (missing included)) e leaves = leaves
memory_of (Some (refused messages included)) e leaves = leaves
memory_of (Some (object name bytes messages summary included)) e leaves = leaves

-- memory ran out
pub memory_lost : (command : Option Invocation) (contents : Option Contents) (e : Effects) → LeavesAll e
    → CommandHolds command contents NoMemory (λ made outcome. Answers command outcome NoMemory e)
memory_lost command contents e leaves = λ held. memory_of (command_outcome command held contents) e leaves

-- ANSWERS OF THE ASSEMBLY

-- the options are those that the invocation asks for
module _ (options : Options) (invocation : Invocation) (contents : Option Contents) (main : main_of options.source ≡ main_of_invocation invocation)
    (warned : options.no_warn ≡ invocation.no_warn) (fatal : options.fatal_warnings ≡ invocation.fatal_warnings) (followed : options.scfi ≡ invocation.scfi) where
  asked : (held : Synthesis) → flags_of options held ≡ flags_by invocation held
  asked held =
      ap (λ x. record { no_warn = x; fatal_warnings = options.fatal_warnings; scfi = cond options.scfi (Some held) None }) warned
      ∙ ap (λ x. record { no_warn = invocation.no_warn; fatal_warnings = x; scfi = cond options.scfi (Some held) None }) fatal
      ∙ ap (λ x. record { no_warn = invocation.no_warn; fatal_warnings = invocation.fatal_warnings; scfi = cond x (Some held) None }) followed

  -- what holds of these flags and of this main source holds of those of the invocation
  asked_so : (held : Synthesis) (P : Flags → MainSource → Type 0) → P (flags_of options held) (main_of options.source) → P (flags_by invocation held) (main_of_invocation invocation)
  asked_so held P is = subst (λ flags. P flags (main_of_invocation invocation)) (asked held) (subst (λ source. P (flags_of options held) source) main is)

  made_so : (held : Synthesis) → IsMade (flags_of options held) contents (main_of options.source) → CommandIsMade (Some invocation) contents held
  made_so held is = asked_so held (λ flags source. IsMade flags contents source) is

  -- what the invocation stands for, where that is known
  abbrev known_for : Synthesis → Option Assembly
  known_for held = main_assembly (flags_by invocation held) contents (main_of_invocation invocation)

  assembled_so : (held : Synthesis) (answer : Result Assembled AsmFault) → Assembles (flags_of options held) contents (main_of options.source) answer
      → AssemblesKnown (known_for held) answer
  assembled_so held answer is = asked_so held (λ flags source. Assembles flags contents source answer) is

  -- the object was made
  pub object_made : (answer : Assembled) (messages : List ℕ) (summary : Option (List ℕ)) (e : Effects) → AnswersFile options contents (Ok answer)
      → messages ≡ remarks answer.files answer.notes → summary ≡ summary_by invocation.self_load answer.counts (length answer.object)
      → MakesObject invocation.object answer.object messages summary e → CommandHolds (Some invocation) contents Done (λ made outcome. Answers (Some invocation) outcome Done e)
  object_made answer messages summary e is same sums makes =
      (is.0, made_so is.0 is.1, delivered invocation (known_for is.0) answer messages summary e (assembled_so is.0 (Ok answer) is.2.outcome) same sums makes)

  -- or only in part
  pub object_begun : (answer : Assembled) (messages : List ℕ) (summary : Option (List ℕ)) (e : Effects) → AnswersFile options contents (Ok answer)
      → messages ≡ remarks answer.files answer.notes → summary ≡ summary_by invocation.self_load answer.counts (length answer.object)
      → MakesInPart invocation.object answer.object messages summary e
      → CommandHolds (Some invocation) contents WriteFault (λ made outcome. Answers (Some invocation) outcome WriteFault e)
  object_begun answer messages summary e is same sums makes =
      (is.0, made_so is.0 is.1, made_in_part invocation (known_for is.0) answer messages summary e (assembled_so is.0 (Ok answer) is.2.outcome) same sums makes)

  -- the source was refused
  pub source_refused : (fault : Fault) (pos : Pos) (notes : List Noted) (files : List (List ℕ)) (text : List ℕ) (e : Effects) → AnswersFile options contents (Err (Source fault pos notes files))
      → text ≡ refusal files notes fault pos → Refuses text e → CommandHolds (Some invocation) contents SourceFault (λ made outcome. Answers (Some invocation) outcome SourceFault e)
  source_refused fault pos notes files text e is same refuses = (
    is.0,
    made_so is.0 is.1,
    refused_whole invocation (known_for is.0) fault pos notes files text e (assembled_so is.0 (Err (Source fault pos notes files)) is.2.outcome) same refuses,
  )

  -- or its messages were said in part
  pub source_cut : (fault : Fault) (pos : Pos) (notes : List Noted) (files : List (List ℕ)) (text : List ℕ) (e : Effects) → AnswersFile options contents (Err (Source fault pos notes files))
      → text ≡ refusal files notes fault pos → RefusesInPart text e → CommandHolds (Some invocation) contents WriteFault (λ made outcome. Answers (Some invocation) outcome WriteFault e)
  source_cut fault pos notes files text e is same refuses = (
    is.0,
    made_so is.0 is.1,
    refused_in_part invocation (known_for is.0) fault pos notes files text e (assembled_so is.0 (Err (Source fault pos notes files)) is.2.outcome) same refuses,
  )

  -- the files of the object were read
  pub files_read : (answer : Assembled) (before now : Option (List FileEvent)) (taken taken_after : ℕ) → AnswersFile options contents (Ok answer)
      → NamesFiles (name_of (main_of options.source)) (Ok answer) → ReadsFiles (main_of options.source) (Ok answer) before now
      → TakesFiles (main_of options.source) (Ok answer) taken taken_after
      → CommandHolds (Some invocation) contents Done (λ made outcome. ReadsAll outcome (main_of_invocation invocation) before now taken taken_after)
  files_read answer before now taken taken_after is names reads takes = (
    is.0,
    made_so is.0 is.1,
    all_read contents invocation is.0 answer before now taken taken_after (assembled_so is.0 (Ok answer) is.2.outcome)
        (subst (λ source. NamesFiles (name_of source) (Ok answer)) main names) (subst (λ source. ReadsFiles source (Ok answer) before now) main reads)
        (subst (λ source. TakesFiles source (Ok answer) taken taken_after) main takes),
  )

  -- to their end
  pub all_stopped : (answer : Assembled) (before now : Option (List ℕ)) → StopsAtEnd (main_of options.source) (Ok answer) before now → ReadsToEnd (main_of_invocation invocation) before now
  all_stopped answer before now stops = stopped (main_of options.source) (main_of_invocation invocation) answer before now main stops

  -- the object is found
  pub found : (answer : Assembled) → AnswersFile options contents (Ok answer)
      → CommandHolds (Some invocation) contents Done (λ made outcome. InvocationIsReadable invocation made contents)
  found answer is = (
    is.0,
    made_so is.0 is.1,
    object_found contents invocation is.0 answer (asked_so is.0 (λ flags source. Assembles flags contents source (Ok answer)) is.2.outcome)
        (asked_so is.0 (λ flags source. SourceIsReadable flags contents source (Ok answer)) is.2.readable),
  )

  -- what counts of starts are
  pub all_missed : (before now : ℕ) → ((made : Synthesis) → CountsMisses (flags_of options made) contents (main_of options.source) before now)
      → (made : Synthesis) → CountsMissingOutcome (invocation_outcome invocation made contents) before now
  all_missed before now counts made = missed contents invocation made before now (asked_so made (λ flags source. CountsMisses flags contents source before now) (counts made))

  -- and which files were started
  pub all_started : (before now : Option (List FileEvent)) (taken taken_after : ℕ)
      → ((made : Synthesis) → StartsFiles (flags_of options made) contents (main_of options.source) before now taken taken_after)
      → (made : Synthesis) → StartsFront (invocation_outcome invocation made contents) (main_of_invocation invocation) before now taken taken_after
  all_started before now taken taken_after starts made =
      starts_front contents invocation made before now taken taken_after (asked_so made (λ flags source. StartsFiles flags contents source before now taken taken_after) (starts made))
