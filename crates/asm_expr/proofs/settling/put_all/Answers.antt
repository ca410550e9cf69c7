-- The first of the terms that are left is put.
use Rattle.std.proofs.Common.{Ok, sym, ◌∙◌, ap}
use Rattle.asm_expr.specs.Settled.{put_one, put_all}
use Rattle.asm_expr.proofs.SettledLemmas.{put_step, put_done}
use Rattle.asm_expr.proofs.settling.put_all.Goals as goal

pub loop-spot-preserved : goal.loop-spot-preserved
loop-spot-preserved g c =
    let same = c.as_slice-in-loop-spot.ensures ∙ sym c.as_slice-spot-items.ensures in
    let number = rw same at c.cancelled_number.ensures in
    let grown = c.in_ok-made.ensures ∙ ap (put_one c.loop-spot.made c.remove-term.result) number in
    let step =
    put_step (g.K.Known.told c.args.known.now) c.as_slice-spot-items.result.now c.loop-spot.spot-index c.loop-spot.terms.items c.remove-term.new.self.items c.remove-term.result
    c.loop-spot.made c.in_ok-made.made (put_all c.as_slice-spot-items.result.now (g.K.Known.told c.args.known.now) c.constant_form-made.result c.args.terms.items)
    c.loop-spot.invariant.left c.loop-spot-test.true c.remove-term.ensures.value c.remove-term.ensures.items c.loop-spot.invariant.kept grown c.loop-spot.invariant.made in
    record { left = step.0; kept = step.1; made = step.2 }

pub returns : goal.returns
returns g c =
    let list = c.as_slice.ensures in
    let spots = c.as_slice-spot-items.ensures ∙ rw list at c.in_ok-spots.ensures in
    let done =
    put_done (g.K.Known.told c.args.known.now) c.as_slice-spot-items.result.now c.loop-spot.spot-index c.loop-spot.terms.items c.loop-spot.made
    (put_all c.as_slice-spot-items.result.now (g.K.Known.told c.args.known.now) c.constant_form-made.result c.args.terms.items)
    c.loop-spot.invariant.left c.loop-spot-test.false c.loop-spot.invariant.made in
    ap Ok (sym (rw (spots, c.constant_form-made.ensures) at done))
