-- Each instruction is one of the two kinds, and the bytes of those with operands are put last.
use Rattle.asm_place.proofs.CodeLaws.{tokens_told, tokens_put}
use Rattle.asm_place.proofs.laws.encoding_stands.Goals as goal

pub returns-clause-told : goal.returns-clause-told
returns-clause-told c = tokens_told

pub returns-clause-put : goal.returns-clause-put
returns-clause-put c = tokens_put c.fields_stand_apart.ensures.places
