-- What is kept is that of all items with the new one.
use Rattle.std.proofs.Common.{◌≡◌, ◌<◌, ◌^◌, ◌++◌, ◌∷◌, [], length, rules}
use Rattle.asm_frags.proofs.KnownExtentLemmas.{items_more}
use Rattle.asm_frags.proofs.item_list.Items.add.Goals as goal

pub invariant_of-self-2 : goal.invariant_of-self-2
invariant_of-self-2 g c =
    let room : length c.self.inside.items.items < 2 ^ 28 = search rules in
    let put : c.put_last.new.items.items ≡ c.self.inside.items.items ++ c.args.item ∷ [] = search rules in
    items_more c.self.inside.items.items c.put_last.new.items.items c.args.item c.self.inside.alignment c.asked_alignment-asked.result c.max-self-inside.result
    c.self.inside.extent c.advanced-extent.result c.self.inside.in_run _ c.self.invariant room put c.asked_alignment-asked.ensures
    c.max-self-inside.ensures c.advanced-extent.ensures.extent c.advanced-extent.ensures.breaks c.advanced-extent.ensures.bytes (search rules)
