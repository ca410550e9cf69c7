-- The sum of two values counts as the sum of their texts.
use Rattle.std.proofs.Common.{refl, ap, ◌∙◌}
use Rattle.asm_expr.specs.Trees.{tree_of}
use Rattle.att_operands.proofs.JoinedValues.{joined}
use Rattle.att_operands.proofs.joined_values.join_value.Goals as goal

pub returns : goal.returns
returns c = λ one other first second. record {
  amount = joined c.args.held.now c.args.more (tree_of c.in_ok-new.field-0.value) one other
      (ap tree_of c.in_ok-new.ensures.ok ∙ rw (c.in_ok-left.ensures, c.in_ok-right.ensures, c.replace-first.ensures.value) refl) first second;
  suffix = second.suffix;
}
