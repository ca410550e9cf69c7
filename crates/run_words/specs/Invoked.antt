-- The values that the words give, as the definition's record.
use Rattle.run_words.specs.Words.{Invocation as Invoked}
use Rattle.run_words.specs.declared.words.Invocation.{Invocation}

-- what the words ask for, as the definition has it
abbrev pub invoked : Invocation → Invoked
invoked i = record { file = i.file.now; self_load = i.self_load; object = i.object.now; scfi = i.scfi; no_warn = i.no_warn; fatal_warnings = i.fatal_warnings }
