-- Settling takes out the labels that cancel, and nothing else.
use Rattle.asm_expr.proofs.SettledLaws.{is_settled}
use Rattle.asm_expr.proofs.laws.whole_stretches_cancel.Goals as goal

pub returns : goal.returns
returns c = is_settled
