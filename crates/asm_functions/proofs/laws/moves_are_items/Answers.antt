use Rattle.asm_functions.proofs.MovedLaws.{moves_put}
use Rattle.asm_functions.proofs.laws.moves_are_items.Goals as goal

pub returns : goal.returns
returns c = moves_put c.statements_put_into_one_section.ensures
