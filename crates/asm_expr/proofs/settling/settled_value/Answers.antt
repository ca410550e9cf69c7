-- A term that has a number goes to the constant, and one that has none is left.
use Rattle.std.proofs.Common.{sym, ◌∙◌, map}
use Rattle.asm_expr.specs.Settled.{spot_of}
use Rattle.asm_expr.proofs.SettledLemmas.{left_in, number_in, none_in, none_put}
use Rattle.asm_expr.proofs.settling.settled_value.Goals as goal

pub loop-term-init : goal.loop-term-init
loop-term-init g c =
    let terms = c.terms-terms.ensures.terms in
    let total = c.constant-constant.ensures in
    rw (terms, total) (none_put (g.K.Known.told c.args.known.now) c.args.form.now)

pub returns-in_err-number : goal.returns-in_err-number
returns-in_err-number g c =
    c.from_residual.ensures
    ∙ left_in (g.K.Known.told c.args.known.now) (map (spot_of (g.K.Known.told c.args.known.now)) c.terms-terms.result.now) c.terms-terms.result.now c.loop-term.term-index
    c.loop-term.constant c.term-item.result _ c.loop-term-test.true c.term-item.is (sym c.in_err-number.ensures) c.loop-term.invariant

pub loop-term-preserved : goal.loop-term-preserved
loop-term-preserved g c =
    number_in (g.K.Known.told c.args.known.now) (map (spot_of (g.K.Known.told c.args.known.now)) c.terms-terms.result.now) c.terms-terms.result.now c.loop-term.term-index
    c.loop-term.constant c.in_ok-number.number c.term-item.result _ c.loop-term-test.true c.term-item.is (sym c.in_ok-number.ensures) c.loop-term.invariant

pub returns : goal.returns
returns g c =
    none_in (g.K.Known.told c.args.known.now) (map (spot_of (g.K.Known.told c.args.known.now)) c.terms-terms.result.now) c.terms-terms.result.now c.loop-term.term-index
    c.loop-term.constant _ c.loop-term-test.false c.loop-term.invariant
