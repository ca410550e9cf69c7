use Rattle.std.proofs.Common.{ap}
use Rattle.asm_expr.specs.Trees.{tree_of}
use Rattle.att_operands.proofs.AmountLemmas.{tree_is, tree_fails}
use Rattle.att_operands.proofs.JoinedValues.{same_like}
use Rattle.att_operands.proofs.values.tree_amount.Goals as goal

pub returns-in_ok-new-in-Ok-clause-value : goal.returns-in_ok-new-in-Ok-clause-value
returns-in_ok-new-in-Ok-clause-value c =
    tree_is c.args.tokens.now c.args.at c.in-Ok.length c.in-Ok.expr _ c.requires c.in-Ok.ensures.within c.in-Ok.ensures.value
    (same_like _ _ (ap tree_of c.in_ok-new-in-Ok.ensures.ok))

pub returns-in-Err-clause-value : goal.returns-in-Err-clause-value
returns-in-Err-clause-value c = tree_fails c.args.tokens.now c.args.at c.in-Err.refusal c.raise.result c.in-Err.ensures.value c.raise.ensures
