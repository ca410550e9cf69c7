-- The values that the words give, as the definition's record.
use Rattle.dis_words.specs.Words.{Invocation as Invoked}
use Rattle.dis_words.specs.declared.words.Invocation.{Invocation}

-- what the words ask for, as the definition has it
abbrev pub invoked : Invocation → Invoked
invoked i = record { file = i.file.now; intel = i.intel }
