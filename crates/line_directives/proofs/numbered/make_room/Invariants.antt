use Rattle.std.proofs.Common.{◌≡◌, ◌≤◌, length}
use Rattle.line_directives.specs.Numbered.{with_room}
use Rattle.line_directives.proofs.numbered.make_room.Given as goal

abbrev pub invariant-loop-index : goal.invariant-loop-index
invariant-loop-index g l =
    (l._index ≡ length l.values.items) × (with_room l.fn.count l.values.items ≡ with_room l.fn.count l.fn.values.items)
