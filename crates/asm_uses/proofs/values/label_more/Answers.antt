-- A label and a number.
use Rattle.std.proofs.Common.{◌+◌, ◌%◌, ◌^◌, false, Some, sym, subst, arith}
use Rattle.asm_uses.specs.declared.values.Value.TheVariants.{Number, Label}
use Rattle.asm_uses.specs.Values.{FindsSum}
use Rattle.asm_uses.proofs.ValueLemmas.{more_number}
use Rattle.asm_uses.proofs.values.label_more.Goals as goal

pub returns-in-Number : goal.returns-in-Number
returns-in-Number c =
    let more = (c.args.at + c.in-Number.number) % 2 ^ 64 in
    subst (λ value. FindsSum false (Label c.args.stretch c.args.at) value (Some (Label c.args.stretch more))) (sym c.in-Number.is)
    (more_number c.args.stretch c.args.at c.in-Number.number more (omega arith))
