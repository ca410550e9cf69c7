-- At first there are no items.
use Rattle.asm_frags.proofs.KnownExtentLemmas.{no_items}
use Rattle.asm_frags.proofs.item_list.Items.new.Goals as goal

pub invariant_of-result : goal.invariant_of-result
invariant_of-result g c = no_items c.new.result.items c.new.ensures.items
