-- What clap answers is what the words ask for.
use Rattle.std.proofs.Common.{◌∙◌, Some, ap}
use Rattle.clap.specs.Words.{app_of}
use Rattle.dis_words.proofs.Reading.{answer_refused, answer_taken}
use Rattle.dis_words.proofs.words.read_words.Goals as goal

pub returns-in-Ok : goal.returns-in-Ok
returns-in-Ok c = ap Some c.invocation_of.ensures ∙ answer_taken (app_of c.in_ok-command.command) _ c.in-Ok.matches c.in_ok-command.ensures c.in-Ok.ensures.matches c.in-Ok.ensures.kinds

pub returns : goal.returns
returns c = answer_refused (app_of c.in_ok-command.command) _ c.in-Err.error c.in_ok-command.ensures (λ memory. c.in_default.not-OutOfMemory (c.kind.ensures ∙ memory)) c.in-Err.ensures.kinds
