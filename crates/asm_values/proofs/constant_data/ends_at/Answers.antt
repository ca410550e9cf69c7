-- Nothing is there, or the token that is tested.
use Rattle.std.proofs.Common.{◌∙◌}
use Rattle.asm_values.proofs.OperandEnds.{ends_none, ends_some}
use Rattle.asm_values.proofs.constant_data.ends_at.Goals as goal

pub returns-then-at-tokens : goal.returns-then-at-tokens
returns-then-at-tokens c = ends_none c.args.tokens.now c.args.at c.if-at-tokens.true

pub returns : goal.returns
returns c = c.is_mark.ensures ∙ ends_some c.args.tokens.now c.args.at _ c.if-at-tokens.false
