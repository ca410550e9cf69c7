use Rattle.std.proofs.Common.{◌++◌, ap, ◌∙◌}
use Rattle.scfi_pass.specs.Changing.{told_at}
use Rattle.scfi_pass.proofs.ChangingLemmas.{led}
use Rattle.scfi_pass.proofs.changing.lead.Goals as goal

pub returns : goal.returns
returns c =
    let item = c.args.item in
    led item c.args.from.now c.args.to.now c.args.ops.now.items c.put.new.ops.items c.put-2.new.ops.items c.put-3.new.ops.items c.put-4.new.ops.items c.put-5.new.ops.items c.put-6.new.ops.items c.put-7.new.ops.items
    (c.in_ok-put.ensures ∙ ap (λ o. c.args.ops.now.items ++ told_at item o) c.cfa_op.ensures)
    (c.in_ok-put-2.ensures ∙ ap (λ o. c.put.new.ops.items ++ told_at item o) c.slot_op.ensures)
    (c.in_ok-put-3.ensures ∙ ap (λ o. c.put-2.new.ops.items ++ told_at item o) c.slot_op-2.ensures)
    (c.in_ok-put-4.ensures ∙ ap (λ o. c.put-3.new.ops.items ++ told_at item o) c.slot_op-3.ensures)
    (c.in_ok-put-5.ensures ∙ ap (λ o. c.put-4.new.ops.items ++ told_at item o) c.slot_op-4.ensures)
    (c.in_ok-put-6.ensures ∙ ap (λ o. c.put-5.new.ops.items ++ told_at item o) c.slot_op-5.ensures)
    (c.in_ok-put-7.ensures ∙ ap (λ o. c.put-6.new.ops.items ++ told_at item o) c.slot_op-6.ensures)
