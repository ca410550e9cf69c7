-- The distance is that of the two rows.
use Rattle.std.proofs.Common.{◌≡◌, List, Some, ap, ◌∙◌, rules}
use Rattle.asm_expr.specs.declared.forms.Term.{Term}
use Rattle.row_distances.specs.Pairs.{pair_of}
use Rattle.row_distances.proofs.PairLemmas.{rows_between}
use Rattle.row_distances.proofs.form_distances.rows_apart.Goals as goal

pub returns : goal.returns
returns c =
    let view = c.args.view in
    let terms : pair_of c.args.form.now.terms ≡ Some c.in_ok-pair.pair = ap (λ (all : List Term). pair_of all) c.requires ∙ (search rules) in
    rows_between view.symbols.now view.own view.starts.now c.args.count c.args.form.now c.in_ok-pair.pair c.in_ok-ahead.ahead c.in_ok-behind.behind _ terms (search rules)
    (search rules) (search rules) (search rules) (search rules)
