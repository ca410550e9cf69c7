-- The number stands in place of the constant.
use Rattle.std.proofs.Common.{◌≡◌, [], ◌∷◌, ap, ◌∙◌, arith}
use Rattle.asm_expr.specs.Forms.{Form, wrapped, term_of}
use Rattle.asm_expr.proofs.DifferenceLemmas.{with_number}
use Rattle.asm_expr.proofs.forms.symbol_and_number.Goals as goal

pub returns : goal.returns
returns c =
    let fits = c.ranges.number.fits in
    let small : wrapped c.args.number ≡ c.args.number = omega arith in
    let terms : c.form.inside.terms.items ≡ term_of c.args.symbol 1 ∷ [] = ap (λ (form : Form). form.terms) (c.form.view_is ∙ c.in_ok-form.ensures) in
    rw terms (with_number c.args.symbol c.args.number small)
