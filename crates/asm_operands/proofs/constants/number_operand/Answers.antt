-- A leaf is an operand, whatever is open.
use Rattle.asm_operands.proofs.CutLemmas.{leaf_counted}
use Rattle.asm_operands.proofs.constants.number_operand.Goals as goal

pub returns : goal.returns
returns g c depth = leaf_counted (g.L.Leaves.worth c.args.leaves.now) c.args.tokens.now c.args.at depth _ _ _ c.if-at-tokens.false c.in_ok-value.ensures c.level_at-level.ensures
