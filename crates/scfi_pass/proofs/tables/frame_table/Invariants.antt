use Rattle.std.proofs.Common.{◌<◌, ℕ}
use Rattle.scfi_pass.specs.Tables.{IsSoundAt, IsHeld}
use Rattle.scfi_pass.specs.Synthesis.{analyzed, LeadsOn}
use Rattle.scfi_pass.proofs.tables.frame_table.Given as goal

abbrev pub invariant-loop-place : goal.invariant-loop-place
invariant-loop-place l = record {
  sound : (j : ℕ) → j < l.place → IsSoundAt (analyzed l.walked) j;
  held : IsHeld (analyzed l.walked) l.last l.row;
  leads : LeadsOn (analyzed l.walked) l.place l.row l.ops.items;
}
