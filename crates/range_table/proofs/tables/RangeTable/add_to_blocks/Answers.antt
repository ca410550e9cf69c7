use Rattle.std.proofs.Common.{◌≡◌, ◌≤◌, ◌*◌, ℕ, length, arith}
use Rattle.std.specs.Vec.{with_items}
use Rattle.std.proofs.lemmas.List.{with_items_is}
use Rattle.range_table.proofs.ShownLemmas.{length_shown}
use Rattle.range_table.proofs.MovingLemmas.{blocks_moved}
use Rattle.range_table.proofs.tables.RangeTable.add_to_blocks.Goals as goal

pub returns : goal.returns
returns c =
    let long = length_shown c.self.inside.blocks.items c.self.inside.entries.items in
    let within = rw (← c.self.view_is) at c.requires.within in
    let moved = rw c.deref_mut.ensures.value at c.add_each.ensures in
    let put : (with_items c.self.inside.blocks c.add_each.new.numbers).items ≡ c.add_each.new.numbers =
    with_items_is c.self.inside.blocks c.add_each.new.numbers (omega (arith, moved.len, c.deref_mut.ensures.len, c.deref_mut.ensures.value)) in
    rw (← c.self.view_is) (blocks_moved c.self.inside.blocks.items (with_items c.self.inside.blocks c.add_each.new.numbers).items c.self.inside.entries.items
    c.args.first c.args.last c.args.more (omega arith) (rw put moved))
