use Rattle.std.proofs.Common.{◌≡◌, length, arith}
use Rattle.std.proofs.lemmas.List.{get_or_default}
use Rattle.range_table.proofs.ShownLemmas.{length_shown, shown_plain}
use Rattle.range_table.proofs.tables.RangeTable.fill.Goals as goal

pub copy_from_slice-requires : goal.copy_from_slice-requires
copy_from_slice-requires c =
    let long = length_shown c.self.inside.blocks.items c.self.inside.entries.items in
    let within = rw (← c.self.view_is) at c.requires in
    omega arith

pub returns : goal.returns
returns c =
    let zeros = c.fill.ensures.items (λ y is. is) in
    rw (zeros, c.copy_from_slice.ensures.items)
    (shown_plain _ c.args.numbers.now (λ index default within. (let fits = c.type_inv.numbers index in let same = get_or_default c.args.numbers.now index default 0 within in omega arith)))
