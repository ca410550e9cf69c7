-- Those so far.
use Rattle.std.proofs.Common.{◌≡◌, take, count_by}
use Rattle.asm_levels.specs.Needs.{has_levels}
use Rattle.layer_rows.proofs.layouts.settled.several.Given as goal

abbrev pub invariant-loop-row : goal.invariant-loop-row
invariant-loop-row l = l.count ≡ count_by (λ row. has_levels row.size) (take l.row-index l.rows)
