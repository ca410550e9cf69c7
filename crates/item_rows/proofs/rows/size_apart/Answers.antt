-- What grows fits as its distance does.
use Rattle.std.proofs.Common.{◌≡◌, Some, sym, subst, rules}
use Rattle.asm_levels.specs.declared.distances.Distance.TheVariants.{Between}
use Rattle.asm_levels.specs.declared.rows.RowSize.{RowSize}
use Rattle.row_distances.specs.FormDistances.{NamesFew}
use Rattle.item_rows.specs.ItemRows.{field_distance}
use Rattle.item_rows.specs.RowViews.{told_rows}
use Rattle.item_rows.specs.RowBounds.{SizeFits}
use Rattle.item_rows.proofs.RowFitting.{grown_fits, field_names}
use Rattle.item_rows.proofs.rows.size_apart.Goals as goal

pub returns-clause-fits : goal.returns-clause-fits
returns-clause-fits c number =
    let rows = told_rows c.args.rows in
    let apart = c.in_ok-number.field-0 in
    let distance = Between apart.number apart.ahead apart.behind in
    let is : field_distance rows c.in_ok-field.field.now ≡ Some distance = search rules in
    let names = subst (NamesFew c.args.rows.count) is (field_names rows c.in_ok-field.field.now c.distances_are_values.ensures.stands) in
    subst (λ (size : RowSize). SizeFits c.args.rows.count number size) (sym c.grown_row.ensures) (grown_fits c.args.rows.count number c.args.held.kind (Some distance) names)
