-- With no term, or one that counts, the form stays.
use Rattle.std.proofs.Common.{Ok, sym, ◌∙◌, ap}
use Rattle.asm_expr.specs.Forms.{Form}
use Rattle.asm_expr.proofs.SettledLemmas.{stays, none_cancel}
use Rattle.asm_expr.proofs.settling.settled.Goals as goal

pub returns-then-cannot_cancel : goal.returns-then-cannot_cancel
returns-then-cannot_cancel g c =
    let is = c.form.view_is in
    let list = c.as_slice.ensures in
    let whole : Form = record { terms = c.form.inside.terms.items; constant = c.form.inside.constant } in
    rw (← is) (ap Ok (sym (stays (g.K.Known.told c.args.known.now) whole (sym (rw list at c.cannot_cancel.ensures) ∙ c.if-cannot_cancel.true))))

pub returns-then-nothing_cancels : goal.returns-then-nothing_cancels
returns-then-nothing_cancels g c =
    let is = c.form.view_is in
    let list = c.as_slice-2.ensures in
    let whole : Form = record { terms = c.form.inside.terms.items; constant = c.form.inside.constant } in
    rw (← is) (ap Ok (sym (none_cancel (g.K.Known.told c.args.known.now) whole (sym (rw list at c.nothing_cancels.ensures) ∙ c.if-nothing_cancels.true))))
