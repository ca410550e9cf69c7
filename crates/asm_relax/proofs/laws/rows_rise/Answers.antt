-- The row behind an item is moved by its size more.
use Rattle.std.proofs.Common.{◌∙◌}
use Rattle.item_rows.specs.ItemRows.{rows_of, levels_of}
use Rattle.asm_relax.proofs.LayingLemmas.{rows_are_all}
use Rattle.asm_relax.proofs.SettlingLemmas.{settled_within}
use Rattle.asm_relax.proofs.ShiftTail.{rows_rise, shifts_long}
use Rattle.asm_relax.proofs.laws.rows_rise.Goals as goal

pub returns-clause-rise : goal.returns-clause-rise
returns-clause-rise c symbols sections =
    rows_rise symbols (levels_of (rows_of symbols sections)) sections
    (settled_within c.layouts_are_reached.ensures c.needs_stay_within_tops.ensures c.some_ranking.ensures symbols sections)

pub returns-clause-count : goal.returns-clause-count
returns-clause-count c symbols levels sections = shifts_long (rows_of symbols sections) levels ∙ rows_are_all symbols sections
