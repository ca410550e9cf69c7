-- The shifts of the rows before the index are written, and their bytes bound them.
use Rattle.std.proofs.Common.{◌≡◌, ◌≤◌, length, take, drop}
use Rattle.asm_levels.specs.Sizes.{most_in}
use Rattle.asm_levels.specs.Shifts.{shifts_from, shifts_of}
use Rattle.row_plans.proofs.ShiftLemmas.{AllWithin}
use Rattle.row_plans.proofs.placing.place.Given as goal

abbrev pub invariant-loop-index : goal.invariant-loop-index
invariant-loop-index l = record {
  so_far : shifts_from (take l.index l.shifts) l.shift (drop l.index l.rows) (drop l.index l.levels) ≡ shifts_of l.rows l.levels;
  low : l.shift ≤ most_in (take l.index l.rows);
  within : AllWithin (most_in (take l.index l.rows)) (take l.index l.shifts);
  many : length l.shifts ≡ length l.rows;
}
