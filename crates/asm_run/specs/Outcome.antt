-- What the words of a command line stand for.
use Rattle.std.specs.Prelude.{ℕ, List, [], Option, None, Some}
use Rattle.asm_base.specs.Inputs.{Contents}
use Rattle.source_ends.specs.Synthesis.{Synthesis}
use Rattle.asm_front.specs.Sources.{MainSource, file}
use Rattle.run_words.specs.Words.{Invocation, command_of}
use Rattle.source_runs.specs.Outcome.{Outcome, main_of_invocation, command_outcome}

-- the main source of a command, and standard input where the words are none
abbrev pub main_of_command : Option Invocation → MainSource
main_of_command None = file []
main_of_command (Some invocation) = main_of_invocation invocation

-- what the words stand for, where synthesis, if it is asked for, comes to this: usage, told or not, and all else where it is known
abbrev pub outcome : List (List ℕ) → Synthesis → Option Contents → Option Outcome
outcome words made contents = command_outcome (command_of words) made contents
