-- A name is worth what is known of its symbol.
use Rattle.std.proofs.Common.{sym}
use Rattle.asm_base.specs.Tokens.{spelled}
use Rattle.asm_uses.proofs.ValueLemmas.{label_leaf, constant_leaf}
use Rattle.asm_uses.proofs.values.named_value.Goals as goal

pub returns-in-Label : goal.returns-in-Label
returns-in-Label c =
    label_leaf c.args.view.now (spelled c.args.token.now) c.in_ok-symbol.symbol c.in-Label.stretch c.in-Label.at c.requires (sym c.if-is_dot.ensures) (sym c.if-is_mark.ensures)
    c.in_ok-symbol.ensures.value c.in-Label.ensures

pub returns-in-Constant : goal.returns-in-Constant
returns-in-Constant c =
    constant_leaf c.args.view.now (spelled c.args.token.now) c.in_ok-symbol.symbol c.in-Constant.number c.requires (sym c.if-is_dot.ensures) (sym c.if-is_mark.ensures)
    c.in_ok-symbol.ensures.value c.in-Constant.ensures
