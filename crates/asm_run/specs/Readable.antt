-- The object that a command line stands for, as a reader of the file finds it.
use Rattle.std.specs.Prelude.{Option, None, Some}
use Rattle.asm_base.specs.Inputs.{Contents}
use Rattle.source_ends.specs.Synthesis.{Synthesis}
use Rattle.run_words.specs.Words.{Invocation}
use Rattle.source_runs.specs.Readable.{InvocationIsReadable}

-- of words that are a command: all numbers of the object that it stands for fit their fields, and its sections are found by their headers
abbrev pub CommandIsReadable : Option Invocation → Synthesis → Option Contents → Type 0
CommandIsReadable None made contents = Unit {0}
CommandIsReadable (Some invocation) made contents = InvocationIsReadable invocation made contents
