-- What is at the front of the first tokens is at the front of all.
use Rattle.asm_operands.proofs.CutLemmas.{front_found}
use Rattle.asm_operands.proofs.constants.front_value.Goals as goal

pub returns : goal.returns
returns g c = front_found (g.L.Leaves.worth c.args.leaves.now) c.args.tokens.now _ _ _ c.in_ok-value.ensures
