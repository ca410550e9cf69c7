-- What is kept of items looks at no address.
use Rattle.asm_frags.proofs.SubstitutingLemmas.{items_at_zero}
use Rattle.asm_frags.proofs.item_list.Items+Loose.laid.Goals as goal

pub invariant_of-result : goal.invariant_of-result
invariant_of-result c =
    items_at_zero c.self.inside.items.items c.in_ok-items.items.items c.self.inside.alignment c.self.inside.extent c.self.inside.in_run c.self.invariant c.in_ok-items.ensures.ok
