-- An address and a size change nothing that is kept of the items.
use Rattle.std.proofs.Common.{◌<◌, length, ap}
use Rattle.asm_frags.specs.Addresses.{item_laid_at}
use Rattle.asm_frags.proofs.AddressLemmas.{changed_is, items_laid}
use Rattle.asm_frags.proofs.item_list.Items+Laid.lay.Goals as goal

pub invariant_of-self : goal.invariant_of-self
invariant_of-self c =
    items_laid c.self.inside.items.items c.args.item _ c.index_mut-laid.result.now c.self.inside.alignment c.self.inside.extent c.self.inside.in_run c.self.invariant
    (ap (λ item. item.content) c.index_mut-laid.ensures.value)

pub returns : goal.returns
returns c =
    let within : c.args.item < length c.self.inside.items.items = rw c.self.view_is c.requires in
    rw (← c.self.view_is) (changed_is (item_laid_at c.args.address c.args.size) c.self.inside.items.items c.args.item c.index_mut-laid.result.now within c.index_mut-laid.ensures.value)
