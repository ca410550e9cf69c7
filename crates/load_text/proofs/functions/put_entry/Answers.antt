-- The pieces, one after the other, are the lines.
use Rattle.std.proofs.Common.{append_assoc, rules}
use Rattle.std.proofs.lemmas.Result.{IfOk-equal}
use Rattle.load_text.specs.Load.{entry_text}
use Rattle.load_text.proofs.functions.put_entry.Goals as goal

pub returns : goal.returns
unfolding entry_text
returns c = search (rules, IfOk-equal, append_assoc)
