-- What grows fits as its distance does.
use Rattle.std.proofs.Common.{◌∙◌, ap, sym, subst}
use Rattle.asm_levels.specs.declared.rows.RowSize.{RowSize}
use Rattle.item_rows.specs.ItemRows.{grown_row}
use Rattle.item_rows.specs.RowBounds.{SizeFits}
use Rattle.item_rows.proofs.RowFitting.{grown_fits}
use Rattle.item_rows.proofs.rows.SizeInRowFragVisit.growing.Goals as goal

pub returns : goal.returns
returns c = (
  c.grown_row.ensures ∙ ap (grown_row c.args.held.kind) c.in_ok-distance.ensures.distance,
  subst (λ (size : RowSize). SizeFits c.args.self.now.rows.count c.args.self.now.number size) (sym c.grown_row.ensures)
      (grown_fits c.args.self.now.rows.count c.args.self.now.number c.args.held.kind c.in_ok-distance.distance c.in_ok-distance.ensures.names),
)
