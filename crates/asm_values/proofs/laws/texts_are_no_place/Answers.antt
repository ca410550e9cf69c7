use Rattle.asm_values.proofs.PlainLemmas.{text_elsewhere}
use Rattle.asm_values.proofs.laws.texts_are_no_place.Goals as goal

-- src/laws.rt
pub returns : goal.returns
returns c = text_elsewhere
