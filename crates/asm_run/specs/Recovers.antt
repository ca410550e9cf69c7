-- The frame tables that are worked out for a command line, in the bytes of the object that it
-- stands for.
use Rattle.std.specs.Prelude.{ℕ, List, Option, None, Some}
use Rattle.asm_base.specs.Inputs.{Contents}
use Rattle.expansion_laws.specs.Handing.{AreBytes}
use Rattle.source_ends.specs.Synthesis.{Synthesis}
use Rattle.asm_front.specs.Sources.{name_of, source_in}
use Rattle.asm_front.specs.Assembly.{assembly_of, IsMade}
use Rattle.source_ends.specs.Ending.{Flags}
use Rattle.recovery_laws.specs.Sources.{SourceRecovers}
use Rattle.run_words.specs.Words.{Invocation}
use Rattle.source_runs.specs.Outcome.{Outcome, object, flags_by, main_of_invocation, source_outcome}

-- the functions of the source of this name recover in the object: the rows that their entries in
-- `.eh_frame` give lead to the caller, along each execution in which calls keep the registers, the
-- return address and the slots, and stores whose place is not followed leave these alone
abbrev pub OutcomeRecovers : Flags → Contents → (name source : List ℕ) → Outcome → Type 0
OutcomeRecovers flags contents name source (object output bytes messages summary included) =
    SourceRecovers flags contents name source bytes
OutcomeRecovers flags contents name source _ = Unit {0}

-- the same of the source of this name, if it is there
abbrev pub FileRecovers : Invocation → Synthesis → Contents → List ℕ → Option (List ℕ) → Type 0
FileRecovers invocation made contents name None = Unit {0}
FileRecovers invocation made contents name (Some source) =
    OutcomeRecovers (flags_by invocation made) contents name source
    (source_outcome invocation (assembly_of (flags_by invocation made) contents name source))

-- the same of the invocation, where the contents are told: files are bytes
abbrev pub InvocationRecovers : Invocation → Synthesis → Option Contents → Type 0
InvocationRecovers invocation made None = Unit {0}
InvocationRecovers invocation made (Some contents) =
    AreBytes contents → FileRecovers invocation made contents
    (name_of (main_of_invocation invocation)) (source_in contents (main_of_invocation invocation))

-- the same of words that are a command, with what synthesis comes to, if it is asked for
abbrev pub CommandRecovers : Option Invocation → Option Contents → Type 0
CommandRecovers None contents = Unit {0}
CommandRecovers (Some invocation) contents = (made : Synthesis)
    → IsMade (flags_by invocation made) contents (main_of_invocation invocation)
    → InvocationRecovers invocation made contents
