-- Settling keeps the value.
use Rattle.asm_expr.proofs.KeptValues.{keeps_value}
use Rattle.asm_expr.proofs.laws.cancelled_labels_keep_the_value.Goals as goal

pub returns : goal.returns
returns c = keeps_value
