use Rattle.form_laws.proofs.Spelling.{tokens_spelled}
use Rattle.form_laws.proofs.numbers.tokens_are_in_bytes.Goals as goal

pub returns : goal.returns
returns c = tokens_spelled
