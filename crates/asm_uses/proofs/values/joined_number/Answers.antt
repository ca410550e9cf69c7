-- An operator makes a number of two.
use Rattle.std.proofs.Common.{sym, subst, Some}
use Rattle.asm_base.specs.Tokens.{spelled}
use Rattle.asm_operands.specs.Worths.{FindsJoined}
use Rattle.asm_uses.specs.declared.values.Value.TheVariants.{Number}
use Rattle.asm_uses.specs.Values.{IsWorthIn}
use Rattle.asm_uses.proofs.ValueLemmas.{numbers_joined}
use Rattle.asm_uses.proofs.values.joined_number.Goals as goal

pub returns-in_ok-operator_value-in-Number : goal.returns-in_ok-operator_value-in-Number
returns-in_ok-operator_value-in-Number c =
    subst (λ value. FindsJoined (IsWorthIn c.args.view.now) (spelled c.args.operator.now) (Number c.args.number) value (Some (Number c.in_ok-operator_value-in-Number.field-0))) (sym c.in-Number.is)
    (numbers_joined c.args.view.now (spelled c.args.operator.now) c.args.number c.in-Number.other c.in_ok-operator_value-in-Number.field-0 c.in_ok-operator_value-in-Number.ensures)
