-- The items so far are made.
use Rattle.std.proofs.Common.{◌≡◌, map}
use Rattle.asm_frags.specs.Substituting.{laid_item}
use Rattle.asm_frags.proofs.item_list.laid_items.Given as goal

abbrev pub invariant-loop-item : goal.invariant-loop-item
invariant-loop-item l = l.made.items ≡ map laid_item l.yielded
