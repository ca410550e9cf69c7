-- A label less a number, or less another of its stretch.
use Rattle.std.proofs.Common.{true, Some, sym, subst}
use Rattle.asm_uses.specs.declared.values.Value.TheVariants.{Number, Label}
use Rattle.asm_uses.specs.Values.{FindsSum}
use Rattle.asm_uses.proofs.ValueLemmas.{less_number, less_label}
use Rattle.asm_uses.proofs.values.label_less.Goals as goal

pub returns-in-Number : goal.returns-in-Number
returns-in-Number c =
    subst (λ value. FindsSum true (Label c.args.stretch c.args.at) value (Some (Label c.args.stretch c.less.result))) (sym c.in-Number.is)
    (less_number c.args.stretch c.args.at c.in-Number.number c.less.result c.less.ensures.value)

pub returns-then-others-stretch : goal.returns-then-others-stretch
returns-then-others-stretch c =
    subst (λ value. FindsSum true (Label c.args.stretch c.args.at) value (Some (Number c.less-then-others-stretch.result))) (sym c.in-Label.is)
    (less_label c.args.stretch c.in-Label.others c.args.at c.in-Label.origin c.less-then-others-stretch.result c.if-others-stretch.true c.less-then-others-stretch.ensures.within c.less-then-others-stretch.ensures.value)
