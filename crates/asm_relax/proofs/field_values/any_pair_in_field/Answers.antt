-- Two labels of one stretch cancel where the one counts as often as minus the other.
use Rattle.std.proofs.Common.{◌≡◌, ℕ, None, sym, ap, ◌∙◌, rules}
use Rattle.asm_expr.specs.Forms.{Form}
use Rattle.asm_expr.specs.Knowledge.{Told, label, told_by}
use Rattle.asm_expr.specs.Settled.{spot_by, spot_of, settled, constant_left}
use Rattle.asm_relax.specs.Final.{beside_label}
use Rattle.asm_relax.specs.FieldValues.{told_in_field}
use Rattle.asm_relax.proofs.PairLemmas.{pair_is, beside_is, no_label, not_label}
use Rattle.asm_relax.proofs.field_values.any_pair_in_field.Goals as goal

pub returns-in-Label : goal.returns-in-Label
returns-in-Label c =
    let field = c.args.field.now in
    let told = told_in_field c.args.symbols.now c.args.sections.now field in
    let one = c.args.one.now in
    let other = c.args.other.now in
    let known = told_by c.look_in_pair-known.result in
    let first : told one.symbol ≡ label c.in-Label.stretch c.in-Label.at = sym c.look_in_pair.ensures ∙ ap told_by c.in-Label.is in
    c.beside_label.ensures
    ∙ ap (λ (n : ℕ). beside_label n one.coefficient c.in-Label.at c.in-Label.stretch other.coefficient known) c.constant.ensures
    ∙ beside_is told field.form.constant one other c.requires.kept (search rules) c.in-Label.stretch c.in-Label.at first known (sym c.look_in_pair-known.ensures)
    ∙ ap (λ (made : Form). constant_left (settled told made)) (sym (pair_is field.form one other c.requires.terms))

pub returns-in_default : goal.returns-in_default
returns-in_default c =
    let field = c.args.field.now in
    let told = told_in_field c.args.symbols.now c.args.sections.now field in
    let one = c.args.one.now in
    let none : spot_of told one ≡ None = ap (λ (known : Told). spot_by known one.coefficient) (sym c.look_in_pair.ensures) ∙ not_label c.look_in_pair.result one.coefficient c.in_default.not-Label in
    no_label told field.form.constant one c.args.other.now none ∙ ap (λ (made : Form). constant_left (settled told made)) (sym (pair_is field.form one c.args.other.now c.requires.terms))
