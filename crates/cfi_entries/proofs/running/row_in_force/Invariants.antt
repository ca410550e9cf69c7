use Rattle.std.proofs.Common.{◌≡◌, ◌*◌, ◌^◌, ◌≤◌, length, ◌-◌}
use Rattle.cfi_entries.specs.Walks.{walk_of, ran, start}
use Rattle.cfi_entries.proofs.running.row_in_force.Given as goal

abbrev pub invariant-loop-i : goal.invariant-loop-i
invariant-loop-i l =
    (ran l.fn.initial l.fn.at (length l.bytes - l._i) l.rest (walk_of l.running)
    ≡ ran l.fn.initial l.fn.at (length l.bytes) l.bytes (start l.fn.initial))
    × (length l.rest ≤ length l.bytes - l._i)
    × (l.running.place ≤ l._i * 2 ^ 32)
