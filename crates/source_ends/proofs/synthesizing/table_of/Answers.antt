-- The items of the table and of the fault are there.
use Rattle.std.proofs.Common.{◌<◌, All, length, sym, subst}
use Rattle.scfi_pass.specs.declared.item_ops.ItemOp.{ItemOp}
use Rattle.source_ends.proofs.synthesizing.table_of.Goals as goal

pub placed_ops-requires : goal.placed_ops-requires
placed_ops-requires g c =
    subst (All (λ (op : ItemOp). op.item < length c.args.function.now.items.now)) (sym c.as_slice.ensures.value)
    (c.tables_are_of_items.ensures c.args.function.now.items.now _ _ _ _ c.in-Ok.ensures.table)
