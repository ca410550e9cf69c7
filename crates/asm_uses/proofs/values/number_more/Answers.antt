-- A number and a label.
use Rattle.std.proofs.Common.{◌+◌, ◌%◌, ◌^◌, false, Some, sym, subst, arith}
use Rattle.asm_uses.specs.declared.values.Value.TheVariants.{Number, Label}
use Rattle.asm_uses.specs.Values.{FindsSum}
use Rattle.asm_uses.proofs.ValueLemmas.{number_more}
use Rattle.asm_uses.proofs.values.number_more.Goals as goal

pub returns-in-Label : goal.returns-in-Label
returns-in-Label c =
    let more = (c.in-Label.at + c.args.number) % 2 ^ 64 in
    subst (λ value. FindsSum false (Number c.args.number) value (Some (Label c.in-Label.stretch more))) (sym c.in-Label.is)
    (number_more c.in-Label.stretch c.in-Label.at c.args.number more (omega arith))
