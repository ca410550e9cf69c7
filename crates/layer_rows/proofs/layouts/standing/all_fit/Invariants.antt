-- The rows so far fit among all.
use Rattle.std.proofs.Common.{ℕ, ◌<◌, length, get_or}
use Rattle.asm_levels.specs.declared.rows.Row.{Row}
use Rattle.layer_rows.specs.Fitting.{RowFits}
use Rattle.layer_rows.proofs.layouts.standing.all_fit.Given as goal

abbrev pub invariant-loop-index : goal.invariant-loop-index
invariant-loop-index l = (index : ℕ) (default : Row) → index < l.index → RowFits (length l.rows) index (get_or l.rows index default)
