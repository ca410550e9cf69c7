-- The symbols so far are marked.
use Rattle.std.proofs.Common.{◌≡◌, map, take}
use Rattle.assigned_forms.specs.Linked.{is_weak_alias}
use Rattle.assigned_forms.proofs.linked.aliases.Given as goal

abbrev pub invariant-loop-index : goal.invariant-loop-index
invariant-loop-index l = l.marks.items ≡ map (is_weak_alias l.symbols) (take l.index l.symbols.symbols)
