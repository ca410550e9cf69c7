-- Two labels of one stretch cancel where the one counts as often as minus the other.
use Rattle.std.proofs.Common.{◌≡◌, ℕ, None, sym, ap, ◌∙◌, rules}
use Rattle.asm_expr.specs.Forms.{Form}
use Rattle.asm_expr.specs.Knowledge.{Told, label, told_by}
use Rattle.asm_expr.specs.Settled.{spot_by, spot_of, settled, constant_left}
use Rattle.asm_relax.specs.Final.{beside_label, final_told, laid_value}
use Rattle.asm_relax.proofs.PairLemmas.{pair_is, beside_is, no_label, not_label}
use Rattle.asm_relax.proofs.finals.pair_value.Goals as goal

pub returns-in-Label : goal.returns-in-Label
unfolding laid_value
returns-in-Label c =
    let form = c.args.form.now in
    let told = final_told c.args.symbols.now c.args.sections.now in
    let one = c.args.one.now in
    let other = c.args.other.now in
    let known = told_by c.final_look-known.result in
    let first : told one.symbol ≡ label c.in-Label.stretch c.in-Label.at = sym c.final_look.ensures ∙ ap told_by c.in-Label.is in
    c.beside_label.ensures
    ∙ ap (λ (n : ℕ). beside_label n one.coefficient c.in-Label.at c.in-Label.stretch other.coefficient known) c.constant.ensures
    ∙ beside_is told form.constant one other c.requires.kept (search rules) c.in-Label.stretch c.in-Label.at first known (sym c.final_look-known.ensures)
    ∙ ap (λ (made : Form). constant_left (settled told made)) (sym (pair_is form one other c.requires.terms))

pub returns-in_default : goal.returns-in_default
unfolding laid_value
returns-in_default c =
    let form = c.args.form.now in
    let told = final_told c.args.symbols.now c.args.sections.now in
    let one = c.args.one.now in
    let none : spot_of told one ≡ None = ap (λ (known : Told). spot_by known one.coefficient) (sym c.final_look.ensures) ∙ not_label c.final_look.result one.coefficient c.in_default.not-Label in
    no_label told form.constant one c.args.other.now none ∙ ap (λ (made : Form). constant_left (settled told made)) (sym (pair_is form one c.args.other.now c.requires.terms))
