-- A number stays as it is.
use Rattle.std.proofs.Common.{◌≡◌, [], sym, ap, ◌∙◌, arith}
use Rattle.std.proofs.lemmas.List.{nil_from_length}
use Rattle.std.specs.List.{list_any}
use Rattle.asm_relax.specs.Final.{laid_value}
use Rattle.assigned_forms.specs.Expanding.{is_assigned}
use Rattle.asm_relax.proofs.finals.end_value.Goals as goal

pub returns-in_default : goal.returns-in_default
returns-in_default c =
    let none : c.args.form.now.terms ≡ [] = sym c.terms.ensures.terms ∙ nil_from_length c.terms.result.now (omega (arith, c.in_default.len_below)) in
    let symbols = c.args.symbols.now in
    let same = c.expansions_are_exact.ensures.none symbols c.args.form.now (ap (list_any (is_assigned symbols)) none) in
    c.laid_value.ensures ∙ ap (laid_value symbols c.args.sections.now) (sym same)
