-- What the words of a command line stand for is what the command stands for that they are, and usage where they are none.
use Rattle.std.proofs.Common.{◌≡◌, inl, inr, ℕ, List, [], Option, None, Some, Ok, refl, subst}
use Rattle.asm_base.specs.History.{FileEvent}
use Rattle.asm_base.specs.Inputs.{Contents}
use Rattle.asm_base.specs.declared.statuses.Status.{Status}
use Rattle.asm_base.specs.declared.statuses.Status.TheVariants.{Done, SourceFault, Usage, ReadFault, WriteFault, NoMemory}
use Rattle.source_ends.specs.Synthesis.{Synthesis}
use Rattle.run_words.specs.Words.{Invocation, usage_text}
use Rattle.source_runs.specs.Outcome.{Outcome, usage, missing, refused, object, main_of_invocation, invocation_outcome, command_outcome, CommandHolds}
use Rattle.source_runs.specs.Answers.{Effects, Refuses, RefusesInPart, Answers, ReadsAll, ReadsToEnd, StartsFront}
use Rattle.source_runs.specs.Readable.{InvocationIsReadable}
use Rattle.asm_run.specs.Completes.{Completes}
use Rattle.asm_run.specs.Outcome.{main_of_command}
use Rattle.asm_run.specs.Readable.{CommandIsReadable}

-- WORDS THAT ARE NO COMMAND

-- the usage was said
pub usage_said : (command : Option Invocation) (contents : Option Contents) (e : Effects) → command ≡ None → Refuses usage_text e
    → CommandHolds command contents Usage (λ made outcome. Answers command outcome Usage e)
usage_said None contents e none refuses = (Ok [], tt, refuses)
usage_said (Some invocation) contents e none refuses = absurd cc

-- or only in part
pub usage_cut : (command : Option Invocation) (contents : Option Contents) (e : Effects) → command ≡ None → RefusesInPart usage_text e
    → CommandHolds command contents WriteFault (λ made outcome. Answers command outcome WriteFault e)
usage_cut None contents e none refuses = (Ok [], tt, refuses)
usage_cut (Some invocation) contents e none refuses = absurd cc

-- where no call failed
pub usage_completes : (command : Option Invocation) (contents : Option Contents) → command ≡ None → CommandHolds command contents Usage (λ made outcome. Completes outcome Usage)
usage_completes None contents none = (Ok [], tt, inl refl)
usage_completes (Some invocation) contents none = absurd cc

-- WORDS THAT ARE A COMMAND

module _ (command : Option Invocation) (invocation : Invocation) (same : Some invocation ≡ command) (contents : Option Contents) (status : Status) where
  pub command_answers : (e : Effects) → CommandHolds (Some invocation) contents status (λ made outcome. Answers (Some invocation) outcome status e)
      → CommandHolds command contents status (λ made outcome. Answers command outcome status e)
  command_answers e is = subst (λ c. CommandHolds c contents status (λ made outcome. Answers c outcome status e)) same is

  pub command_is_readable : CommandHolds (Some invocation) contents status (λ made outcome. InvocationIsReadable invocation made contents)
      → CommandHolds command contents status (λ made outcome. CommandIsReadable command made contents)
  command_is_readable is = subst (λ c. CommandHolds c contents status (λ made outcome. CommandIsReadable c made contents)) same is

  pub command_reads : (before now : Option (List FileEvent)) (taken taken_after : ℕ)
      → CommandHolds (Some invocation) contents status (λ made outcome. ReadsAll outcome (main_of_invocation invocation) before now taken taken_after)
      → CommandHolds command contents status (λ made outcome. ReadsAll outcome (main_of_command command) before now taken taken_after)
  command_reads before now taken taken_after is =
      subst (λ c. CommandHolds c contents status (λ made outcome. ReadsAll outcome (main_of_command c) before now taken taken_after)) same is

  -- which files were started, and where the last of them ends
  pub command_starts : (before now : Option (List FileEvent)) (taken taken_after : ℕ)
      → ((made : Synthesis) → StartsFront (invocation_outcome invocation made contents) (main_of_invocation invocation) before now taken taken_after)
      → (made : Synthesis) → StartsFront (command_outcome command made contents) (main_of_command command) before now taken taken_after
  command_starts before now taken taken_after is made =
      subst (λ c. StartsFront (command_outcome c made contents) (main_of_command c) before now taken taken_after) same (is made)

  pub command_stops : (before now : Option (List ℕ)) → ReadsToEnd (main_of_invocation invocation) before now → ReadsToEnd (main_of_command command) before now
  command_stops before now is = subst (λ c. ReadsToEnd (main_of_command c) before now) same is

-- THE STATUS

-- where no call failed, the status is that of the outcome
completes_one : (outcome : Option Outcome) (command : Option Invocation) (status : Status) (e : Effects) → (status ≡ ReadFault → ⊥) → (status ≡ WriteFault → ⊥) → Answers command outcome status e
    → Completes outcome status
completes_one None command Done e read write is = inl refl
completes_one None command SourceFault e read write is = inr (inl refl)
completes_one None command Usage e read write is = absurd is
completes_one None command ReadFault e read write is = absurd (read refl)
completes_one None command WriteFault e read write is = absurd (write refl)
completes_one None command NoMemory e read write is = inr (inr refl)
completes_one (Some usage) command Done e read write is = absurd is
completes_one (Some usage) command SourceFault e read write is = absurd is
completes_one (Some usage) command Usage e read write is = inl refl
completes_one (Some usage) command ReadFault e read write is = absurd (read refl)
completes_one (Some usage) command WriteFault e read write is = absurd (write refl)
completes_one (Some usage) command NoMemory e read write is = inr refl
completes_one (Some (missing included)) command Done e read write is = absurd is
completes_one (Some (missing included)) command SourceFault e read write is = absurd is
completes_one (Some (missing included)) command Usage e read write is = absurd is
completes_one (Some (missing included)) command ReadFault e read write is = absurd (read refl)
completes_one (Some (missing included)) command WriteFault e read write is = absurd (write refl)
completes_one (Some (missing included)) command NoMemory e read write is = refl
completes_one (Some (refused messages included)) command Done e read write is = absurd is
completes_one (Some (refused messages included)) command SourceFault e read write is = inl refl
completes_one (Some (refused messages included)) command Usage e read write is = absurd is
completes_one (Some (refused messages included)) command ReadFault e read write is = absurd (read refl)
completes_one (Some (refused messages included)) command WriteFault e read write is = absurd (write refl)
completes_one (Some (refused messages included)) command NoMemory e read write is = inr refl
completes_one (Some (object name bytes messages summary included)) command Done e read write is = inl refl
completes_one (Some (object name bytes messages summary included)) command SourceFault e read write is = absurd is
completes_one (Some (object name bytes messages summary included)) command Usage e read write is = absurd is
completes_one (Some (object name bytes messages summary included)) command ReadFault e read write is = absurd (read refl)
completes_one (Some (object name bytes messages summary included)) command WriteFault e read write is = absurd (write refl)
completes_one (Some (object name bytes messages summary included)) command NoMemory e read write is = inr refl

module _ (command : Option Invocation) (contents : Option Contents) where
  -- what follows of the outcome
  weaker : (status : Status) (One Other : Synthesis → Option Outcome → Type 0) → ((made : Synthesis) (outcome : Option Outcome) → One made outcome → Other made outcome)
      → CommandHolds command contents status One → CommandHolds command contents status Other
  weaker Done One Other so is = (is.0, is.1, so is.0 (command_outcome command is.0 contents) is.2)
  weaker SourceFault One Other so is = (is.0, is.1, so is.0 (command_outcome command is.0 contents) is.2)
  weaker Usage One Other so is = (is.0, is.1, so is.0 (command_outcome command is.0 contents) is.2)
  weaker WriteFault One Other so is = (is.0, is.1, so is.0 (command_outcome command is.0 contents) is.2)
  weaker ReadFault One Other so is = λ made. so made (command_outcome command made contents) (is made)
  weaker NoMemory One Other so is = λ made. so made (command_outcome command made contents) (is made)

  pub completes : (status : Status) (e : Effects) → (status ≡ ReadFault → ⊥) → (status ≡ WriteFault → ⊥)
      → CommandHolds command contents status (λ made outcome. Answers command outcome status e) → CommandHolds command contents status (λ made outcome. Completes outcome status)
  completes status e read write is =
      weaker status (λ made outcome. Answers command outcome status e) (λ made outcome. Completes outcome status) (λ made outcome one. completes_one outcome command status e read write one) is
