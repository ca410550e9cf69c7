-- The number that was read is that of the word.
use Rattle.std.proofs.Common.{◌∙◌}
use Rattle.run_words.proofs.ReadNumbers.{none_read, number_read}
use Rattle.run_words.proofs.functions.functions_of.Goals as goal

pub returns-in-Ok : goal.returns-in-Ok
returns-in-Ok c = c.functions_in.ensures ∙ number_read c.args.word.now c.in-Ok.number c.parse.result c.in-Ok.is c.parse.ensures.value.0

pub returns-in-Err : goal.returns-in-Err
returns-in-Err c = none_read c.args.word.now _ c.parse.result c.in-Err.is c.parse.ensures.value.0
