-- A parameter that takes the rest of a call stands before another.
use Rattle.std.proofs.Common.{sym, ap, ◌∙◌}
use Rattle.macro_texts.proofs.ParameterLemmas.{rest_refused}
use Rattle.macro_texts.specs.Parameters.{is_rest_kind}
use Rattle.macro_texts.proofs.parameters.rest_is_last.Goals as goal

pub returns-then-at-parameters : goal.returns-then-at-parameters
returns-then-at-parameters c =
    let i = c.index-parameters-at.is in
    let e = c.if-takes_rest.true in
    let h = c.takes_rest.ensures in
    sym (rest_refused c.args.parameters.now c.loop-at.at c.index-parameters-at.result c.if-at-parameters.true (ap (λ p. is_rest_kind p.kind) (sym i) ∙ sym h ∙ e)) ∙ c.loop-at.invariant
