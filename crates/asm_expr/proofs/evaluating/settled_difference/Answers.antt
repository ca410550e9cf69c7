-- Nothing, the distance, or both symbols.
use Rattle.std.proofs.Common.{◌≡◌, sym, ◌∙◌}
use Rattle.asm_expr.proofs.DifferenceLemmas.{same_symbol, both_stay, distance_stands, differ}
use Rattle.asm_expr.proofs.evaluating.settled_difference.Goals as goal

pub returns-then-index : goal.returns-then-index
returns-then-index g c =
    c.constant_form.ensures ∙ same_symbol (g.K.Known.told c.args.known.now) c.args.one c.args.other (sym c.index.ensures ∙ c.if-index.true ∙ c.index-2.ensures)

pub returns-in-Some : goal.returns-in-Some
returns-in-Some g c =
    let apart : c.args.one ≡ c.args.other → ⊥ = λ same. c.if-index.false (c.index.ensures ∙ same ∙ sym c.index-2.ensures) in
    c.constant_form-in-Some.ensures
    ∙ distance_stands (g.K.Known.told c.args.known.now) c.args.one c.args.other c.in-Some.number (differ c.args.one c.args.other apart) (sym c.in-Some.is ∙ c.distance.ensures)

pub returns-in-None : goal.returns-in-None
returns-in-None g c =
    let apart : c.args.one ≡ c.args.other → ⊥ = λ same. c.if-index.false (c.index.ensures ∙ same ∙ sym c.index-2.ensures) in
    let stay = both_stay (g.K.Known.told c.args.known.now) c.args.one c.args.other (differ c.args.one c.args.other apart) (sym c.distance.ensures ∙ c.in-None.is) in
    rw (sym stay) c.symbols_apart.ensures
