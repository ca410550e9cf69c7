-- There are more lists, each without items.
use Rattle.std.proofs.Common.{◌+◌, ◌-◌, length}
use Rattle.code_functions.specs.Lists.{IsGrown}
use Rattle.code_functions.proofs.lists.ItemLists.reach.Given as goal

abbrev pub invariant-lists : goal.invariant-lists
invariant-lists l = IsGrown l.fn.self l.self-inside.lists.items

abbrev pub decreases-lists : goal.decreases-lists
decreases-lists l = l.section + 1 - length l.self-inside.lists.items
