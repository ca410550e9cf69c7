-- The end behind the rest is the end behind all.
use Rattle.std.proofs.Common.{◌≡◌, ℕ, drop}
use Rattle.table_pieces.specs.Ends.{behind_pieces}
use Rattle.eh_frame.specs.Entries.{op_pieces}
use Rattle.eh_frame.proofs.entries.behind_ops.Given as goal

abbrev pub invariant-loop-placed : goal.invariant-loop-placed
invariant-loop-placed l = (section log : ℕ)
    → behind_pieces (op_pieces section log l.last (drop l.placed-index l.ops)) l.behind ≡ behind_pieces (op_pieces section log l.fn.start l.ops) l.fn.end
