-- The object that a command line stands for, as a reader of the file finds it.
use Rattle.std.specs.Prelude.{ℕ, List, Option, None, Some}
use Rattle.asm_base.specs.Inputs.{Contents}
use Rattle.asm_lines.specs.NextStatements.{TokenStatement}
use Rattle.source_ends.specs.Synthesis.{Synthesis}
use Rattle.asm_front.specs.Sources.{name_of, source_in}
use Rattle.asm_front.specs.Assembly.{assembly_of, handed_of}
use Rattle.source_ends.specs.Ending.{Flags}
use Rattle.asm_front.specs.Fitting.{ObjectIsReadable}
use Rattle.run_words.specs.Words.{Invocation}
use Rattle.source_runs.specs.Outcome.{Outcome, object, flags_by, main_of_invocation, source_outcome}

-- all numbers of an object fit their fields, and its sections are found by their headers, where the bytes are whose places are read back
abbrev pub OutcomeIsReadable : Flags → List TokenStatement → Outcome → Type 0
OutcomeIsReadable flags handed (object name bytes messages summary included) = ObjectIsReadable flags handed bytes
OutcomeIsReadable flags handed _ = Unit {0}

-- the same of the source of this name, if it is there, and of the statements that its expansion hands out
abbrev pub FileIsReadable : Invocation → Synthesis → Contents → List ℕ → Option (List ℕ) → Type 0
FileIsReadable invocation made contents name None = Unit {0}
FileIsReadable invocation made contents name (Some source) =
    OutcomeIsReadable (flags_by invocation made) (handed_of (flags_by invocation made) contents name source)
    (source_outcome invocation (assembly_of (flags_by invocation made) contents name source))

-- the same of the invocation, where the contents are known
abbrev pub InvocationIsReadable : Invocation → Synthesis → Option Contents → Type 0
InvocationIsReadable invocation made None = Unit {0}
InvocationIsReadable invocation made (Some contents) =
    FileIsReadable invocation made contents (name_of (main_of_invocation invocation)) (source_in contents (main_of_invocation invocation))
