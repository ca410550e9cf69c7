-- A sum of labels.
use Rattle.asm_base.specs.Tokens.{spelled}
use Rattle.asm_uses.proofs.ValueLemmas.{labels_joined}
use Rattle.asm_uses.proofs.values.joined_labels.Goals as goal

pub returns : goal.returns
returns c = labels_joined c.args.view.now (spelled c.args.operator.now) c.in_ok-minus.minus c.args.left c.args.right c.sum_of.result c.in_ok-minus.ensures c.sum_of.ensures
