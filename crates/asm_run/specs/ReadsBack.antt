-- The object that a command line stands for, read again.
use Rattle.std.specs.Prelude.{ℕ, List, Option, None, Some}
use Rattle.asm_base.specs.Inputs.{Contents}
use Rattle.asm_lines.specs.NextStatements.{TokenStatement}
use Rattle.source_ends.specs.Synthesis.{Synthesis}
use Rattle.asm_front.specs.Sources.{name_of, source_in}
use Rattle.asm_front.specs.Assembly.{assembly_of, handed_of, IsMade}
use Rattle.source_ends.specs.Ending.{Flags}
use Rattle.asm_front.specs.ReadsBack.{ReadsBack}
use Rattle.run_words.specs.Words.{Invocation}
use Rattle.source_runs.specs.Outcome.{Outcome, usage, missing, refused, object, flags_by, main_of_invocation, source_outcome}

-- in an object the place of each instruction in a section with bytes in the file reads as the instruction that was handed out, and as no other, and the
-- frame table as the rows that directives mean
abbrev pub OutcomeReadsBack : Flags → List TokenStatement → Outcome → Type 0
OutcomeReadsBack flags handed usage = Unit {0}
OutcomeReadsBack flags handed (missing included) = Unit {0}
OutcomeReadsBack flags handed (refused messages included) = Unit {0}
OutcomeReadsBack flags handed (object name bytes messages summary included) = ReadsBack flags handed bytes

-- the same of the source of this name, if it is there, and of the statements that its expansion hands out
abbrev pub FileReadsBack : Invocation → Synthesis → Contents → List ℕ → Option (List ℕ) → Type 0
FileReadsBack invocation made contents name None = Unit {0}
FileReadsBack invocation made contents name (Some source) =
    OutcomeReadsBack (flags_by invocation made) (handed_of (flags_by invocation made) contents name source)
    (source_outcome invocation (assembly_of (flags_by invocation made) contents name source))

-- the same of the invocation, where the contents are told
abbrev pub InvocationReadsBack : Invocation → Synthesis → Option Contents → Type 0
InvocationReadsBack invocation made None = Unit {0}
InvocationReadsBack invocation made (Some contents) =
    FileReadsBack invocation made contents (name_of (main_of_invocation invocation)) (source_in contents (main_of_invocation invocation))

-- the same of words that are a command, with what synthesis comes to, if it is asked for
abbrev pub CommandReadsBack : Option Invocation → Option Contents → Type 0
CommandReadsBack None contents = Unit {0}
CommandReadsBack (Some invocation) contents =
    (made : Synthesis) → IsMade (flags_by invocation made) contents (main_of_invocation invocation) → InvocationReadsBack invocation made contents
