-- Few rows of few bytes each, which stand among them all.
use Rattle.std.proofs.Common.{ap, ◌∙◌, length}
use Rattle.std.specs.Prelude.{List}
use Rattle.asm_levels.specs.declared.rows.Row.{Row}
use Rattle.item_rows.specs.ItemRows.{all_rows}
use Rattle.item_rows.proofs.RowLengths.{rows_are_all}
use Rattle.item_rows.proofs.RowFitting.{rows_stand, rows_small}
use Rattle.item_rows.proofs.rows.plan_of.Goals as goal

pub new-requires-clause-stand : goal.new-requires-clause-stand
new-requires-clause-stand c =
    rows_stand (all_rows c.as_slice.result.now) c.in_ok-rows.rows.items c.in_ok-rows.ensures.fit
    (ap (λ (all : List Row). length all) c.in_ok-rows.ensures.rows ∙ rows_are_all c.args.symbols.now c.as_slice.result.now)

pub new-requires-clause-bytes : goal.new-requires-clause-bytes
new-requires-clause-bytes c =
    c.few_rows_have_few_bytes.ensures c.in_ok-rows.rows.items (rows_small (all_rows c.as_slice.result.now) c.in_ok-rows.rows.items c.in_ok-rows.ensures.fit) c.in_ok-rows.ensures.fit.few
